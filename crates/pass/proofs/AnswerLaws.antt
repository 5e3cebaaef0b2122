-- The slip of a taken sheet, from the verdict that the code finds. Assumes nothing.
use Prim.Native.Nat.{ℕ, zero, suc, ◌≤◌}
use mathlib.Core.Path.{◌≡◌, refl, sym, ap, ◌∙◌}
use mathlib.Core.Bool.{true}
use mathlib.Core.List.{List, ◌∷◌}
use native.Mathlib.Omega.{arith}
use lib.ListN.{length, take}
use Rattle.sheet.specs.declared.Header.{Header}
use Rattle.pass_verdict.specs.declared.Verdict.{Verdict}
use Rattle.varint.proofs.WriteLaws.{small_below}
use Rattle.varint.specs.Answer.{small}
use Rattle.sheet_required.proofs.WholeLaws.{items_are, goals_at, listed_front}
use Rattle.pass_verdict.specs.VerdictFound.{goals_of, number_of_verdict, VerdictFound}
use Rattle.sheet_required.specs.Whole.{Whole}
use Rattle.lists.proofs.AscendLaws.{ascends_distinct}
use Rattle.lists.specs.Lists.{Put}
use Rattle.sheet.proofs.SlipLaws.{Small, slip_size, numbers_below}
use Rattle.sheet.specs.Sheet.{Sheet, sheet_of}
use Rattle.sheet.specs.Slip.{Slip, slip_numbers, slip_bytes, marks_bytes}
use Rattle.slip_reader.specs.Form.{slip_from}
use Rattle.pass_rules.proofs.SlipOfPass.{marks_are, slip_small, verdict_goals, reasons_count}
use Rattle.pass_rules.proofs.VerdictLaws.{refused_goals, verdict_low}
use Rattle.pass_rules.specs.Verdict.{verdict, new_marks, reasons_for, slip_for, pass_slip}
use Rattle.walks.specs.declared.arc.Arc.{Arc}
use Rattle.walks.specs.Graph.{item_count}
use Rattle.pass.specs.Blamed.{Blamed}

-- a small slip can be written into 1,200 bytes
pub slip_writes : (s : Slip) (n : ℕ) → Small s → 1200 ≤ n → (small (slip_numbers s) ≡ true) × (length (slip_bytes s) ≤ n)
slip_writes s n b l = (small_below 16384 (slip_numbers s) (omega arith) (numbers_below s b), omega (arith, (slip_size s b).0))

-- at most as many reasons as items
pub reasons_inside : {h : Header} {arcs : List Arc} {marks : List ℕ} → Whole h arcs marks → (goals d : List ℕ) {out : List ℕ} {k : ℕ}
    → Put (reasons_for (sheet_of h arcs marks) goals) d out k → length out ≡ 576 → k ≤ length out
reasons_inside {h} {arcs} {marks} W goals d w l = omega (arith, w.0, reasons_count (sheet_of h arcs marks) goals, items_are W, W.proper.few, W.few)

module _ {h : Header} {arcs : List Arc} {marks : List ℕ} (W : Whole h arcs marks) {v : Verdict} {scratch : List ℕ}
    (J : VerdictFound h arcs marks v scratch) where
  abbrev S : Sheet
  S = sheet_of h arcs marks

  -- verdict 0: the number 0 and the new marks
  pub stands_slip : number_of_verdict v ≡ 0 → 0 ∷ new_marks S ≡ pass_slip S (verdict S)
  unfolding pass_slip
  stands_slip z = let e : (verdict S).number ≡ 0 = sym J.number ∙ z in rw e (sym (marks_are S W.good))

  -- any other: the goals and their reasons
  module _ (n : number_of_verdict v ≡ 0 → ⊥) where
    refused : (verdict S).number ≡ 0 → ⊥
    refused z = n (J.number ∙ z)

    pub blamed : Blamed h arcs marks (goals_of v)
    blamed =
        let G = verdict_goals S W.eight in
        rw J.goals
        (record {
          whole = W;
          fit = record {
            eight = G.few;
            below = λ i l. omega (arith, goals_at (item_count S.graph) i (verdict S).goals G.items l, items_are W, W.sized.0);
            distinct = ascends_distinct (verdict S).goals G.rising;
          };
          unmet = refused_goals S refused;
        })

    -- the slip that is written is the slip of the verdict
    named_slip : (d : List ℕ) {out : List ℕ} {k : ℕ} → Put (reasons_for S (goals_of v)) d out k
        → slip_from (number_of_verdict v) (goals_of v) (take k out) ≡ slip_for S (verdict S).number (verdict S).goals
    unfolding slip_for
    named_slip d {out} {k} w =
        let r : take k out ≡ reasons_for S (goals_of v) = listed_front (reasons_for S (goals_of v)) out d k w in
        rw (r, J.goals, J.number)

    blames_slip : slip_bytes (slip_for S (verdict S).number (verdict S).goals) ≡ pass_slip S (verdict S)
    unfolding pass_slip
    blames_slip = go (verdict S).number refl
      where
        go : (m : ℕ) → (verdict S).number ≡ m
            → slip_bytes (slip_for S m (verdict S).goals) ≡ elim m as (λ m. List ℕ) [ zero ↦ marks_bytes (new_marks S) | suc k ↦ slip_bytes (slip_for S (suc k) (verdict S).goals) ]
        go zero e = absurd (refused e)
        go (suc k) e = refl

    pub named_bytes : (d : List ℕ) {out : List ℕ} {k : ℕ} → Put (reasons_for S (goals_of v)) d out k
        → slip_bytes (slip_from (number_of_verdict v) (goals_of v) (take k out)) ≡ pass_slip S (verdict S)
    named_bytes d w = ap slip_bytes (named_slip d w) ∙ blames_slip

    pub slip_room : (m : ℕ) → 1200 ≤ m → (d : List ℕ) {out : List ℕ} {k : ℕ} → Put (reasons_for S (goals_of v)) d out k
        → (small (slip_numbers (slip_from (number_of_verdict v) (goals_of v) (take k out))) ≡ true) × (length (slip_bytes (slip_from (number_of_verdict v) (goals_of v) (take k out))) ≤ m)
    slip_room m l d w =
        let G = verdict_goals S W.eight in
        let z : 1 ≤ (verdict S).number = omega (arith, refused) in
        rw (named_slip d w)
        (slip_writes (slip_for S (verdict S).number (verdict S).goals) m (slip_small S W.good (verdict S).number (verdict S).goals z (omega (arith, verdict_low S)) G.few G.items) l)
