-- The slip of the pass: at most 1,200 bytes, what its first number and marks are, and that it reads back. Assumes nothing.
use Prim.Native.Nat.{ℕ, zero, suc, ◌+◌, ◌≤◌, ◌<◌}
use mathlib.Core.Path.{◌≡◌, refl, sym, ap, ◌∙◌, subst}
use mathlib.Core.Bool.{true}
use mathlib.Core.List.{List, [], ◌∷◌, map}
use native.Mathlib.Omega.{arith}
use lib.ListN.{length, get_or, length-map}
use lib.Dec.{ltb}
use borrow.Author.Tests.{lt-ltb}
use Rattle.reason_list.proofs.ReasonLaws.{reasons_closed, reasons_ascend}
use Rattle.lists.proofs.AscendLaws.{ascends_distinct, length_span, map_span_at}
use Rattle.lists.proofs.Pigeonhole.{Below, below_all, below_le, pigeonhole}
use Rattle.lists.specs.Lists.{span, ascends}
use Rattle.sheet.proofs.MarkLaws.{required_ascend, required_below}
use Rattle.sheet.proofs.SheetLaws.{good_mark}
use Rattle.sheet.proofs.SlipLaws.{Small, slip_size}
use Rattle.sheet.specs.Good.{Good}
use Rattle.sheet.specs.Sheet.{Sheet, required, all_items}
use Rattle.sheet.specs.Slip.{Slip, slip_numbers, slip_bytes, marks_bytes}
use Rattle.varint.specs.Varint.{got, after, write_number, write_numbers, write_groups}
use Rattle.walks.specs.Graph.{item_count}
use Rattle.pass_rules.proofs.VerdictLaws.{stands, VerdictIs, verdict_is, one, two, three, new_mark_low, verdict_low}
use Rattle.sheet.specs.Reader.{taken}
use Rattle.sheet.specs.Answer.{finished, answer_of}
use Rattle.pass_rules.specs.Pass.{pass_on, verdict_in, mark_in}
use Rattle.pass_rules.specs.Verdict.{Verdict, verdict, new_mark, new_marks, reasons_for, slip_for, pass_slip}

-- reasons are items, ascending, and so at most as many as there are items
pub reasons_below : (S : Sheet) (goals : List ℕ) → Below (item_count S.graph) (reasons_for S goals)
unfolding reasons_for
reasons_below S goals =
    below_all (item_count S.graph) (reasons_for S goals)
    (λ j m. (reasons_closed S.graph S.source S.target S.limit goals S.marks j m).1)

pub reasons_rise : (S : Sheet) (goals : List ℕ) → ascends (reasons_for S goals) ≡ true
unfolding reasons_for
reasons_rise S goals = reasons_ascend S.graph S.source S.target S.limit goals S.marks

pub reasons_count : (S : Sheet) (goals : List ℕ) → length (reasons_for S goals) ≤ item_count S.graph
reasons_count S goals = pigeonhole (item_count S.graph) (reasons_for S goals) (ascends_distinct (reasons_for S goals) (reasons_rise S goals)) (reasons_below S goals)

-- a slip with at most eight goals, all items, is small
pub slip_small : (S : Sheet) → Good S → (first : ℕ) (goals : List ℕ) → 1 ≤ first → first ≤ 4 → length goals ≤ 8 → Below (item_count S.graph) goals
    → Small (slip_for S first goals)
unfolding slip_for
slip_small S g first goals l h f b = record {
  low = l;
  high = h;
  few = f;
  goals = below_le (item_count S.graph) 16384 goals (omega (arith, g.nodes, g.arcs)) b;
  many = omega (arith, reasons_count S goals, g.nodes, g.arcs);
  reasons = below_le (item_count S.graph) 16384 (reasons_for S goals) (omega (arith, g.nodes, g.arcs)) (reasons_below S goals);
}

-- the goals of a verdict are items, at most eight, ascending
pub record Goals (S : Sheet) (goals : List ℕ) : Type 0 where
  pub few : length goals ≤ 8
  pub items : Below (item_count S.graph) goals
  pub rising : ascends goals ≡ true

pub verdict_goals : (S : Sheet) → length (required S) ≤ 8 → Goals S (verdict S).goals
unfolding ascends
verdict_goals S f = go (verdict S) (verdict_is S)
  where
    go : (v : Verdict) → VerdictIs S v → Goals S v.goals
    go v (one n) = record { few = omega arith; items = tt; rising = refl }
    go v (two i s h m n l) = record { few = omega arith; items = (h, tt); rising = refl }
    go v (three s m n) = record { few = f; items = required_below S; rising = required_ascend S }
    go v (stands s m n) = record { few = omega arith; items = tt; rising = refl }

-- the marks of verdict 0 as bytes
small_bytes : (xs : List ℕ) → Below 3 xs → write_numbers xs ≡ xs
unfolding write_numbers write_number write_groups
small_bytes [] b = refl
small_bytes (x ∷ xs) b = let h : ltb x 128 ≡ true = lt-ltb x 128 (omega (arith, b.0)) in rw (h, write_groups) (ap (x ∷◌) (small_bytes xs b.1))

map_low : (S : Sheet) → Good S → (is : List ℕ) → Below 3 (map (new_mark S) is)
map_low S g [] = tt
map_low S g (i ∷ is) = (omega (arith, new_mark_low S i (good_mark S g i)), map_low S g is)

new_marks_low : (S : Sheet) → Good S → Below 3 (new_marks S)
unfolding new_marks
new_marks_low S g = map_low S g (all_items S.graph)

pub marks_are : (S : Sheet) → Good S → marks_bytes (new_marks S) ≡ 0 ∷ new_marks S
unfolding marks_bytes new_marks
marks_are S g = small_bytes (0 ∷ new_marks S) (omega arith, new_marks_low S g)

pub new_marks_size : (S : Sheet) → length (new_marks S) ≡ item_count S.graph
unfolding new_marks all_items
new_marks_size S = length-map (span (item_count S.graph) 0) (new_mark S) ∙ length_span (item_count S.graph) 0

pub new_marks_at : (S : Sheet) (i : ℕ) → i < item_count S.graph → get_or (new_marks S) i 0 ≡ new_mark S i
unfolding new_marks all_items
new_marks_at S i h = let e : 0 + i ≡ i = omega arith in map_span_at (new_mark S) (item_count S.graph) 0 i h ∙ ap (new_mark S) e

-- The slip of a taken sheet by its verdict: 0 and the new marks, or the goals and reasons.
pub data PassSlipIs (S : Sheet) : List ℕ → Type 0 where
  marks : (verdict S).number ≡ 0 → PassSlipIs S (0 ∷ new_marks S)
  blames : 1 ≤ (verdict S).number → Small (slip_for S (verdict S).number (verdict S).goals) → PassSlipIs S (slip_bytes (slip_for S (verdict S).number (verdict S).goals))

pub pass_slip_is : (S : Sheet) → Good S → length (required S) ≤ 8 → PassSlipIs S (pass_slip S (verdict S))
unfolding pass_slip
pass_slip_is S g f = go (verdict S).number refl
  where
    go : (n : ℕ) → (verdict S).number ≡ n
        → PassSlipIs S (elim n as (λ n. List ℕ) [ zero ↦ marks_bytes (new_marks S) | suc k ↦ slip_bytes (slip_for S (suc k) (verdict S).goals) ])
    go zero e = subst (λ (bs : List ℕ). PassSlipIs S bs) (sym (marks_are S g)) (marks e)
    go (suc k) e =
        let G = verdict_goals S f in
        let l : 1 ≤ (verdict S).number = omega (arith, e) in
        let s = slip_small S g (verdict S).number (verdict S).goals l (omega (arith, verdict_low S)) G.few G.items in
        subst (λ (n : ℕ). PassSlipIs S (slip_bytes (slip_for S n (verdict S).goals))) e (blames l s)

-- pass finishes on every taken sheet, with the slip of its verdict
pub pass_finishes : (bs : List ℕ) (S : Sheet) → taken bs ≡ got S [] → pass_on bs ≡ finished (pass_slip S (verdict S))
unfolding pass_on answer_of after
pass_finishes bs S a = rw a

-- a slip of pass has at most 1,200 bytes
pub pass_slip_size : (S : Sheet) → Good S → length (required S) ≤ 8 → (length (pass_slip S (verdict S)) ≤ 1200) × Below 256 (pass_slip S (verdict S))
pass_slip_size S g f = go (pass_slip S (verdict S)) (pass_slip_is S g f)
  where
    go : (bs : List ℕ) → PassSlipIs S bs → (length bs ≤ 1200) × Below 256 bs
    go bs (marks e) = (
      omega (arith, new_marks_size S, g.nodes, g.arcs),
      (omega arith, below_le 3 256 (new_marks S) (omega arith) (new_marks_low S g)),
    )
    go bs (blames l s) = slip_size (slip_for S (verdict S).number (verdict S).goals) s

-- the first byte of a small slip is its first number
pub slip_first : (s : Slip) → Small s → verdict_in (slip_bytes s) ≡ s.first
unfolding slip_bytes slip_numbers write_numbers write_number write_groups
slip_first s b = let h : ltb s.first 128 ≡ true = lt-ltb s.first 128 (omega (arith, b.high)) in rw (h, write_groups)

-- the slip's first number is the verdict
pub pass_verdict_in : (S : Sheet) → Good S → length (required S) ≤ 8 → verdict_in (pass_slip S (verdict S)) ≡ (verdict S).number
unfolding slip_for
pass_verdict_in S g f = go (pass_slip S (verdict S)) (pass_slip_is S g f)
  where
    go : (bs : List ℕ) → PassSlipIs S bs → verdict_in bs ≡ (verdict S).number
    go bs (marks e) = sym e
    go bs (blames l s) = slip_first (slip_for S (verdict S).number (verdict S).goals) s

-- under verdict 0 the slip has the new marks
pub pass_mark_in : (S : Sheet) → Good S → length (required S) ≤ 8 → (verdict S).number ≡ 0 → (i : ℕ) → i < item_count S.graph
    → mark_in (pass_slip S (verdict S)) i ≡ new_mark S i
pass_mark_in S g f z i h = go (pass_slip S (verdict S)) (pass_slip_is S g f)
  where
    go : (bs : List ℕ) → PassSlipIs S bs → mark_in bs i ≡ new_mark S i
    go bs (marks e) = new_marks_at S i h
    go bs (blames l s) = absurd (omega (arith, l, z))
