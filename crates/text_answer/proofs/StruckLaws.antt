-- The items that the program calls struck are those that the pass prunes: an item that is open on the sheet has mark 2 in the slip exactly when no walk
-- within the limit meets it. Assumes nothing.
use Prim.Native.Nat.{ℕ, zero, suc, ◌+◌, ◌≤◌, ◌<◌}
use mathlib.Core.Path.{◌≡◌, refl, ap, ◌∙◌}
use mathlib.Core.Bool.{Bool, true, false, not, ◌&&◌}
use mathlib.Core.List.{List, [], ◌∷◌}
use borrow.Author.Tests.{eqb-true}
use native.Mathlib.Omega.{arith}
use lib.ListN.{get_or}
use lib.Dec.{eqb}
use Rattle.lists.specs.Lists.{pick, keep, span}
use Rattle.varint.specs.Varint.{got}
use Rattle.walks.specs.Graph.{item_count}
use Rattle.sheet.specs.Sheet.{Sheet, mark_of, is_open, is_forced, all_items}
use Rattle.sheet.specs.Reader.{taken}
use Rattle.sheet.specs.Answer.{finished}
use Rattle.pass_rules.specs.Pass.{pass_on, verdict_in, mark_in}
use Rattle.pass_rules.specs.Verdict.{fits_sheet, is_pruned, new_mark}
use Rattle.sheet.proofs.SheetLaws.{taken_good}
use Rattle.pass_rules.proofs.Demand2.{marks_exact}
use Rattle.text_answer.specs.Text.{newly_forbidden}

-- the same test keeps the same numbers
keep_same : (f g : ℕ → Bool) (k a : ℕ) → ((i : ℕ) → a ≤ i → i < a + k → f i ≡ g i) → keep f (span k a) ≡ keep g (span k a)
unfolding keep span
keep_same f g zero a h = refl
keep_same f g (suc k) a h = rw (h a (omega arith) (omega arith), keep_same f g k (suc a) (λ i l m. h i (omega arith) (omega arith)))

-- an item is newly forbidden exactly where it is pruned
new_pruned : (S : Sheet) (i : ℕ) → (eqb (mark_of S i) 0 && eqb (new_mark S i) 2) ≡ is_pruned S i
unfolding new_mark is_pruned is_open
new_pruned S i = go (eqb (mark_of S i) 0) refl (fits_sheet S (i ∷ [])) (is_forced S i)
  where
    go : (o : Bool) → eqb (mark_of S i) 0 ≡ o → (t f : Bool) → (o && eqb (pick (o && not t) 2 (pick (o && f) 1 (mark_of S i))) 2) ≡ (o && not t)
    go false q t f = refl
    go true q false f = refl
    go true q true true = refl
    go true q true false = rw (eqb-true (mark_of S i) 0 q)

-- under verdict 0 the items struck are those that are pruned
pub struck_is : (sheet slip : List ℕ) (S : Sheet) → taken sheet ≡ got S [] → pass_on sheet ≡ finished slip → verdict_in slip ≡ 0
    → newly_forbidden S.marks slip ≡ keep (is_pruned S) (all_items S.graph)
unfolding newly_forbidden all_items mark_of
struck_is sheet slip S a e z =
    rw (taken_good sheet S [] a).size
    (keep_same (λ i. eqb (get_or S.marks i 0) 0 && eqb (mark_in slip i) 2) (is_pruned S) (item_count S.graph) 0
    (λ i l m. ap (λ (k : ℕ). eqb (mark_of S i) 0 && eqb k 2) (marks_exact sheet S a slip e z i (omega arith)) ∙ new_pruned S i))
