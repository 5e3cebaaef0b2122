-- The new marks: an item's mark by cases, and the marks written one by one. Assumes nothing.
use Prim.Native.Nat.{ℕ, suc, ◌+◌, ◌≤◌, ◌<◌}
use mathlib.Core.Path.{◌≡◌, sym, ap, ◌∙◌}
use mathlib.Core.Bool.{Bool, true, false}
use mathlib.Core.List.{List, [], ◌∷◌, ◌++◌}
use native.Mathlib.Omega.{arith}
use native.Mathlib.Numerals.{add-one}
use lib.ListN.{length, take, set}
use lib.Seq.{take-suc, length-take-le, take_all}
use lib.Dec.{eqb}
use Rattle.walks.specs.declared.arc.Arc.{Arc}
use Rattle.sheet.specs.declared.Header.{Header}
use Rattle.lists.proofs.FrontLaws.{push_at}
use Rattle.lists.specs.Lists.{front, pick}
use Rattle.sheet_required.specs.Whole.{Whole}
use Rattle.sheet.proofs.MarkLaws.{is_open_lem}
use Rattle.sheet.specs.Sheet.{Sheet, mark_of, is_open, is_forced, sheet_of}
use Rattle.pass_rules.proofs.SlipOfPass.{new_marks_size, new_marks_at}
use Rattle.pass_rules.proofs.VerdictLaws.{other_mark}
use Rattle.pass_rules.specs.Verdict.{fits_sheet, is_pruned, new_mark, new_marks}
use Rattle.sheet_required.proofs.WholeLaws.{items_are}

-- an item's new mark by cases
pub mark_kept : (S : Sheet) (i m : ℕ) → m ≡ mark_of S i → eqb m 0 ≡ false → m ≡ new_mark S i
unfolding is_open
mark_kept S i m e n = e ∙ sym (other_mark S i (rw e at n))

pub mark_pruned : (S : Sheet) (i : ℕ) → mark_of S i ≡ 0 → fits_sheet S (i ∷ []) ≡ false → 2 ≡ new_mark S i
unfolding new_mark is_pruned
mark_pruned S i e f = rw (is_open_lem S i e, f)

pub mark_open : (S : Sheet) (i : ℕ) (r : ℕ) (t : Bool) → mark_of S i ≡ 0 → fits_sheet S (i ∷ []) ≡ true → is_forced S i ≡ t → r ≡ pick t 1 0 → r ≡ new_mark S i
unfolding new_mark is_pruned
mark_open S i r t e f g q = rw (is_open_lem S i e, f, g, e) q

-- the marks written below i
abbrev pub Marking : Sheet → ℕ → List ℕ → List ℕ → ℕ → Type 0
Marking S n d out i = (i ≤ n) × (out ≡ front (take i (new_marks S)) d)

module _ {h : Header} {arcs : List Arc} {marks : List ℕ} (W : Whole h arcs marks) (d out : List ℕ) (i : ℕ) where
  sized : length (new_marks (sheet_of h arcs marks)) ≡ h.nodes + h.arcs
  sized = new_marks_size (sheet_of h arcs marks) ∙ items_are W

  pub marking_more : (v : ℕ) → Marking (sheet_of h arcs marks) (h.nodes + h.arcs) d out i → i < h.nodes + h.arcs → h.nodes + h.arcs ≤ length d
      → v ≡ new_mark (sheet_of h arcs marks) i → Marking (sheet_of h arcs marks) (h.nodes + h.arcs) d (set out i v) (i + 1)
  marking_more v m l r e =
      let S = sheet_of h arcs marks in
      let z : take (suc i) (new_marks S) ≡ take i (new_marks S) ++ (v ∷ []) =
      take-suc (new_marks S) i 0 (omega (arith, sized)) ∙ ap (λ (x : ℕ). take i (new_marks S) ++ (x ∷ [])) (new_marks_at S i (omega (arith, items_are W)) ∙ sym e) in
      (omega arith, push_at (take i (new_marks S)) d out i v m.1 (length-take-le i (new_marks S) (omega (arith, sized))) (omega arith) ∙ rw (add-one, z))

  pub marking_done : Marking (sheet_of h arcs marks) (h.nodes + h.arcs) d out i → h.nodes + h.arcs ≤ i → out ≡ front (new_marks (sheet_of h arcs marks)) d
  marking_done m l = m.1 ∙ rw (take_all i (new_marks (sheet_of h arcs marks)) (omega (arith, sized)))
