-- The answer for an item: 15, 16, or its slip; and whether the pass prunes it. Assumes nothing.
use Prim.Native.Nat.{ℕ, zero, suc, ◌+◌, ◌≤◌, ◌<◌}
use mathlib.Core.Path.{◌≡◌, refl, ap}
use mathlib.Core.Bool.{Bool, true, false, not, ◌&&◌}
use mathlib.Core.List.{List, [], ◌∷◌}
use native.Mathlib.Omega.{arith}
use lib.ListN.{length, get_or, take}
use lib.Dec.{eqb}
use borrow.Author.Tests.{eq-eqb, ne_eqb, lt-ltb, le-ltb}
use Rattle.sheet.specs.declared.Header.{Header}
use Rattle.varint.specs.Answer.{small}
use Rattle.sheet_required.proofs.WholeLaws.{items_are, listed_front}
use Rattle.sheet_required.specs.Whole.{Whole}
use Rattle.lists.proofs.TestLaws.{and_true, not_true}
use Rattle.lists.specs.Lists.{member, Put}
use Rattle.pass.proofs.AnswerLaws.{slip_writes}
use Rattle.sheet.specs.Sheet.{Sheet, is_open, sheet_of}
use Rattle.sheet.specs.Slip.{slip_bytes, slip_numbers}
use Rattle.slip_reader.specs.Form.{slip_from}
use Rattle.pass_rules.proofs.SlipOfPass.{slip_small}
use Rattle.sheet.specs.Answer.{finished, refused, answer_of}
use Rattle.pass_rules.specs.Verdict.{fits_sheet, verdict, is_pruned, reasons_for, slip_for}
use Rattle.walks.specs.declared.arc.Arc.{Arc}
use Rattle.walks.specs.Graph.{item_count}
use Rattle.reason_rules.specs.Reason.{prunes, reason_in}
use Rattle.pass.specs.Blamed.{Blamed}

module _ (S : Sheet) (i : ℕ) where
  -- the round is refused
  pub not_standing : ((verdict S).number ≡ 0 → ⊥) → false ≡ prunes S i
  unfolding prunes
  not_standing n = rw (ne_eqb (verdict S).number 0 n)

  -- the item is not open
  pub not_open : (verdict S).number ≡ 0 → is_open S i ≡ false → false ≡ prunes S i
  unfolding prunes is_pruned
  not_open z n = rw (eq-eqb (verdict S).number 0 z, n)

  -- it is open: it is pruned exactly where no walk meets it
  pub by_walks : (r : Bool) → (verdict S).number ≡ 0 → is_open S i ≡ true → r ≡ fits_sheet S (i ∷ []) → not r ≡ prunes S i
  unfolding prunes is_pruned
  by_walks r z o e = rw (eq-eqb (verdict S).number 0 z, o) (ap not e)

  pub pruned_unmet : prunes S i ≡ true → fits_sheet S (i ∷ []) ≡ false
  unfolding prunes is_pruned
  pruned_unmet p =
      let a = and_true (eqb (verdict S).number 0) (is_open S i && not (fits_sheet S (i ∷ []))) p in
      not_true (fits_sheet S (i ∷ [])) (and_true (is_open S i) (not (fits_sheet S (i ∷ []))) a.1).1

module _ {h : Header} {arcs : List Arc} {marks : List ℕ} (W : Whole h arcs marks) (i : ℕ) where
  abbrev S : Sheet
  S = sheet_of h arcs marks

  pub no_item : h.nodes + h.arcs ≤ i → answer_of (reason_in i S []) ≡ refused 15
  unfolding reason_in answer_of
  no_item l = rw (le-ltb i (item_count S.graph) (omega (arith, items_are W)))

  module _ (l : i < h.nodes + h.arcs) where
    pub not_pruned : prunes S i ≡ false → answer_of (reason_in i S []) ≡ refused 16
    unfolding reason_in answer_of
    not_pruned p = rw (lt-ltb i (item_count S.graph) (omega (arith, items_are W)), p)

    pub pruned : prunes S i ≡ true → answer_of (reason_in i S []) ≡ finished (slip_bytes (slip_for S 4 (i ∷ [])))
    unfolding reason_in answer_of
    pruned p = rw (lt-ltb i (item_count S.graph) (omega (arith, items_are W)), p)

    pub blamed : prunes S i ≡ true → Blamed h arcs marks (i ∷ [])
    unfolding member
    blamed p = record { whole = W; fit = record { eight = omega arith; below = below; distinct = (refl, tt) }; unmet = pruned_unmet S i p }
      where
        below : (j : ℕ) → j < 1 → get_or (i ∷ []) j 0 < h.nodes + length arcs
        below zero q = omega (arith, l, W.sized.0)
        below (suc j) q = absurd (omega arith)

    -- the slip that is written is the item's
    pub item_slip : (d : List ℕ) {out : List ℕ} {k : ℕ} → Put (reasons_for S (i ∷ [])) d out k → slip_from 4 (i ∷ []) (take k out) ≡ slip_for S 4 (i ∷ [])
    unfolding slip_for
    item_slip d {out} {k} w = rw (listed_front (reasons_for S (i ∷ [])) out d k w)

    pub item_room : (m : ℕ) → 1200 ≤ m → (d : List ℕ) {out : List ℕ} {k : ℕ} → Put (reasons_for S (i ∷ [])) d out k
        → (small (slip_numbers (slip_from 4 (i ∷ []) (take k out))) ≡ true) × (length (slip_bytes (slip_from 4 (i ∷ []) (take k out))) ≤ m)
    item_room m r d w =
        rw (item_slip d w)
        (slip_writes (slip_for S 4 (i ∷ [])) m (slip_small S W.good 4 (i ∷ []) (omega arith) (omega arith) (omega arith) (omega (arith, items_are W), tt)) r)
