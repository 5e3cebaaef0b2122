-- Tests of items, one by one, are tests of the list of their numbers. Assumes nothing.
use Prim.Native.Nat.{ℕ}
use mathlib.Core.Path.{◌≡◌, refl, sym, ap, ◌∙◌}
use mathlib.Core.Bool.{Bool}
use mathlib.Core.List.{List, [], ◌∷◌}
use lib.ListN.{length}
use lib.Dec.{ltb}
use Rattle.std.specs.Prelude.{map}
use Rattle.std.specs.List.{list_all}
use Rattle.std.proofs.lemmas.List.{length-map}
use Rattle.std.proofs.lemmas.List.Folds.{list_all-map}
use Rattle.lists.specs.Lists.{every, ascends, each_next}
use Rattle.check_rules.specs.Check.{goal_count}

module _ {A : Type 0} (number : A → ℕ) where
  next_ascends : (items : List A) → each_next (λ x y. ltb (number x) (number y)) items ≡ ascends (map number items)
  unfolding each_next ascends
  next_ascends [] = refl
  next_ascends (x ∷ []) = refl
  next_ascends (x ∷ y ∷ ys) = rw (next_ascends (y ∷ ys)) refl

  module _ (items : List A) {ns : List ℕ} (e : ns ≡ map number items) where
    pub numbers_every : (f : ℕ → Bool) {r : Bool} → r ≡ list_all (λ x. f (number x)) items → r ≡ every f ns
    numbers_every f q = q ∙ sym (list_all-map f number items) ∙ ap (every f) (sym e)

    pub numbers_ascend : {r : Bool} → r ≡ each_next (λ x y. ltb (number x) (number y)) items → r ≡ ascends ns
    numbers_ascend q = q ∙ next_ascends items ∙ ap ascends (sym e)

    pub numbers_counted : (first : ℕ) {r : Bool} → r ≡ goal_count first (length items) → r ≡ goal_count first (length ns)
    numbers_counted first q = q ∙ ap (goal_count first) (sym (ap length e ∙ length-map items number))
