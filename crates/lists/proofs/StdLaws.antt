-- What std's words for tests over lists say in the words of this crate. Assumes nothing.
use Prim.Native.Nat.{ℕ, zero, suc, ◌+◌, ◌<◌}
use mathlib.Core.Path.{◌≡◌, refl, sym, ◌∙◌}
use mathlib.Core.Bool.{Bool, true, false, ◌&&◌, true≢false}
use mathlib.Core.List.{List, [], ◌∷◌}
use native.Mathlib.Omega.{arith}
use native.Mathlib.Numerals.{unary_clauses}
use lib.ListN.{length, get_or}
use lib.Dec.{eqb, ltb}
use borrow.Author.Tests.{eqb-true, eq-eqb, ne_eqb}
use Rattle.std.specs.Prelude.{Some, cond}
use Rattle.std.specs.List.{list_all, list_any, IsAllAdjacentAnswer}
use Rattle.std.specs.Ordering.{nat_cmp, is_lt, partial_lt}
use Rattle.std.proofs.Common.{Less, Equal, Greater}
use Rattle.lists.specs.Lists.{member, every, subset, ascends, each_next}

-- `every` is std's word
pub every_all : (f : ℕ → Bool) (xs : List ℕ) → list_all f xs ≡ every f xs
every_all f xs = refl

eqb_turned : (a b : ℕ) → eqb a b ≡ eqb b a
eqb_turned a b = go (eqb a b) refl
  where
    go : (t : Bool) → eqb a b ≡ t → t ≡ eqb b a
    go true q = sym (eq-eqb b a (sym (eqb-true a b q)))
    go false q = sym (ne_eqb b a (λ e. absurd (true≢false (sym (eq-eqb a b (sym e)) ∙ q))))

pub member_any : (x : ℕ) (ys : List ℕ) → list_any (λ y. eqb y x) ys ≡ member x ys
unfolding member
member_any x [] = refl
member_any x (y ∷ ys) = rw (member_any x ys, eqb_turned y x)

pub subset_all : (xs ys : List ℕ) → list_all (λ x. list_any (λ y. eqb y x) ys) xs ≡ subset xs ys
unfolding subset
subset_all [] ys = refl
subset_all (x ∷ xs) ys = rw (subset_all xs ys, member_any x ys)

-- what `<` answers at unsigned numbers
less : (x y : ℕ) → partial_lt (λ x y. Some (nat_cmp x y)) x y ≡ ltb x y
less x y = go (ltb x y) (eqb x y)
  where
    go : (s t : Bool) → is_lt (cond s Less (cond t Equal Greater)) ≡ s
    go true t = refl
    go false true = refl
    go false false = refl

pub below_every : (b : ℕ) (xs : List ℕ) → list_all (λ x. partial_lt (λ x y. Some (nat_cmp x y)) x b) xs ≡ every (λ i. ltb i b) xs
below_every b [] = refl
below_every b (x ∷ xs) = rw (below_every b xs, less x b)

pub next_ascends : (xs : List ℕ) → each_next (partial_lt (λ x y. Some (nat_cmp x y))) xs ≡ ascends xs
unfolding each_next ascends
next_ascends [] = refl
next_ascends (x ∷ []) = refl
next_ascends (x ∷ y ∷ ys) = rw (next_ascends (y ∷ ys), less x y)

module _ {A : Type 0} (f : A → A → Bool) where
  each_holds : (xs : List A) → ((k : ℕ) (d : A) → k + 1 < length xs → true ≡ f (get_or xs k d) (get_or xs (k + 1) d)) → true ≡ each_next f xs
  unfolding each_next
  each_holds [] h = refl
  each_holds (x ∷ []) h = refl
  each_holds (x ∷ y ∷ ys) h =
      let first : true ≡ f x y = h 0 x (omega arith) in
      let rest : true ≡ each_next f (y ∷ ys) = each_holds (y ∷ ys) (λ k d l. simp unary_clauses (simp unary_clauses at (h (suc k) d (omega arith)))) in
      rw (← first) rest

  one_fails : (xs : List A) (k : ℕ) → k + 1 < length xs → ((d : A) → false ≡ f (get_or xs k d) (get_or xs (k + 1) d)) → false ≡ each_next f xs
  unfolding each_next
  one_fails [] k l h = absurd (omega arith)
  one_fails (x ∷ []) k l h = absurd (omega arith)
  one_fails (x ∷ y ∷ ys) zero l h = let e : false ≡ f x y = h x in rw (← e) refl
  one_fails (x ∷ y ∷ ys) (suc k) l h = go (f x y) (one_fails (y ∷ ys) k (omega arith) (λ d. simp unary_clauses (simp unary_clauses at (h d))))
    where
      go : (t : Bool) {r : Bool} → false ≡ r → false ≡ (t && r)
      go true q = q
      go false q = refl

  -- what std's `is_sorted_by` answers
  pub next_answer : (b : Bool) (xs : List A) → IsAllAdjacentAnswer (λ x y b. b ≡ f x y) xs b → b ≡ each_next f xs
  next_answer true xs h = each_holds xs h
  next_answer false xs h = one_fails xs h.0 h.1 h.2

-- the same of an answer, for `search`
module _ {r : Bool} where
  pub tells_member : (x : ℕ) (ys : List ℕ) → r ≡ list_any (λ y. eqb y x) ys → r ≡ member x ys
  tells_member x ys e = e ∙ member_any x ys

  pub tells_subset : (xs ys : List ℕ) → r ≡ list_all (λ x. list_any (λ y. eqb y x) ys) xs → r ≡ subset xs ys
  tells_subset xs ys e = e ∙ subset_all xs ys

  pub tells_listed : (xs ys : List ℕ) → r ≡ list_all (λ x. list_any (λ y. eqb y x) ys) xs → r ≡ every (λ x. member x ys) xs
  unfolding subset
  tells_listed xs ys e = e ∙ subset_all xs ys

  pub tells_below : (b : ℕ) (xs : List ℕ) → r ≡ list_all (λ x. partial_lt (λ x y. Some (nat_cmp x y)) x b) xs → r ≡ every (λ i. ltb i b) xs
  tells_below b xs e = e ∙ below_every b xs

  pub tells_ascends : (xs : List ℕ) → r ≡ each_next (partial_lt (λ x y. Some (nat_cmp x y))) xs → r ≡ ascends xs
  tells_ascends xs e = e ∙ next_ascends xs

pub ruleset told = (tells_member, tells_subset, tells_listed, tells_below, tells_ascends)
