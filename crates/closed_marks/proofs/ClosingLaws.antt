-- Marks by which the listed items are closed: they are closed one by one, and one may be opened again. Assumes nothing.
use Prim.Native.Nat.{ℕ, suc, ◌+◌, ◌≤◌, ◌<◌}
use mathlib.Core.Path.{◌≡◌, refl, ap, ◌∙◌, fun_ext}
use mathlib.Core.Bool.{Bool, true, false, not, ◌&&◌, ◌||◌}
use mathlib.Core.List.{List}
use native.Mathlib.Omega.{arith}
use native.Mathlib.Numerals.{add-one}
use lib.ListN.{length, get_or, drop, set, length-set, replicate, drop_of_length-le}
use lib.Seq.{drop-cons, get_or-set_same, get_or-set_other}
use lib.Dec.{eqb}
use borrow.Author.Tests.{eqb-true, eqb-false}
use Rattle.lists.specs.Lists.{pick, member}
use Rattle.lists.proofs.FrontLaws.{zeros_at}
use Rattle.lists.proofs.MemberLaws.{place_member}
use Rattle.walks.specs.Graph.{Graph, closed_in, least, fits}
use Rattle.walks.specs.Lengths.{Least, within}
use Rattle.reason_list.specs.Reasons.{but}
use Rattle.closed_marks.specs.Closing.{Markable, Closing}

-- what stands before place i is closed: the marks need the list from i on
pub record ClosingFrom (list marks : List ℕ) (i : ℕ) : Type 0 where
  pub size : length marks ≡ 576
  pub rest : (j : ℕ) → pick (member j (drop i list)) 2 (get_or marks j 0) ≡ pick (member j list) 2 0

pub closing_begun : (list : List ℕ) → ClosingFrom list (replicate 576 0) 0
closing_begun list = record { size = refl; rest = λ j. ap (pick (member j list) 2) (zeros_at 576 j) }

same : (b : Bool) → ◌≡◌ {A = ℕ} (pick b 2 2) 2
same true = refl
same false = refl

-- one item more
pub closing_more : (list marks : List ℕ) (i : ℕ) → i < length list → Markable list → ClosingFrom list marks i → ClosingFrom list (set marks (get_or list i 0) 2) (i + 1)
unfolding member
closing_more list marks i h b c = record { size = length-set marks x 2 ∙ c.size; rest = λ j. rw add-one (go j (eqb j x) refl (rw (drop-cons list i 0 h) at c.rest j)) }
  where
    x : ℕ
    x = get_or list i 0

    low : x < 576
    low = b x (place_member list i h)

    go : (j : ℕ) (t : Bool) → eqb j x ≡ t → pick (t || member j (drop (suc i) list)) 2 (get_or marks j 0) ≡ pick (member j list) 2 0
        → pick (member j (drop (suc i) list)) 2 (get_or (set marks x 2) j 0) ≡ pick (member j list) 2 0
    go j true q e =
        let two : get_or (set marks x 2) j 0 ≡ 2 = ap (λ (k : ℕ). get_or (set marks x 2) k 0) (eqb-true j x q) ∙ get_or-set_same marks x 2 0 (omega (arith, low, c.size)) in
        ap (pick (member j (drop (suc i) list)) 2) two ∙ same (member j (drop (suc i) list)) ∙ e
    go j false q e = ap (pick (member j (drop (suc i) list)) 2) (get_or-set_other marks x j 2 0 (eqb-false j x q)) ∙ e

pub closing_done : (list marks : List ℕ) (i : ℕ) → length list ≤ i → ClosingFrom list marks i → Closing (λ j. member j list) marks
unfolding member
closing_done list marks i h c = record { size = c.size; each = λ j. rw (drop_of_length-le list h) at c.rest j }

and_yes : (b : Bool) → (b && true) ≡ b
and_yes true = refl
and_yes false = refl

and_no : (b : Bool) → (b && false) ≡ false
and_no true = refl
and_no false = refl

-- one item open again
pub open_one : (closed : ℕ → Bool) (marks : List ℕ) (r : ℕ) → r < 576 → Closing closed marks → Closing (but closed r) (set marks r 0)
unfolding but
open_one closed marks r h c = record { size = length-set marks r 0 ∙ c.size; each = λ j. go j (eqb j r) refl }
  where
    go : (j : ℕ) (t : Bool) → eqb j r ≡ t → get_or (set marks r 0) j 0 ≡ pick (closed j && not (eqb j r)) 2 0
    go j true q = rw (q, and_no (closed j)) (ap (λ (k : ℕ). get_or (set marks r 0) k 0) (eqb-true j r q) ∙ get_or-set_same marks r 0 0 (omega (arith, c.size)))
    go j false q = rw (q, and_yes (closed j)) (get_or-set_other marks r j 0 0 (eqb-false j r q) ∙ c.each j)

-- what the marks close
closes : {closed : ℕ → Bool} {marks : List ℕ} → Closing closed marks → (j : ℕ) → closed_in marks j ≡ closed j
closes {closed} c j = rw (c.each j) (go (closed j))
  where
    go : (t : Bool) → eqb (pick t 2 0) 2 ≡ t
    go true = refl
    go false = refl

-- a walk is clear of what the marks close
pub clear_least : (G : Graph) (s t : ℕ) {closed : ℕ → Bool} {marks : List ℕ} (goals : List ℕ) → Closing closed marks
    → least G (closed_in marks) goals s t ≡ least G closed goals s t
clear_least G s t goals c = ap (λ (f : ℕ → Bool). least G f goals s t) (fun_ext (closes c))

pub clear_fits : (G : Graph) (s t k : ℕ) {closed : ℕ → Bool} {marks : List ℕ} (goals : List ℕ) → Closing closed marks
    → fits G s t k (closed_in marks) goals ≡ fits G s t k closed goals
unfolding fits
clear_fits G s t k goals c = ap (λ (r : Least). within r k) (clear_least G s t goals c)
