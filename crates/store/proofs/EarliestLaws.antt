-- The earliest slip that passes a test, and whether one does, over the slots that show the slips. Assumes nothing.
use Prim.Native.Nat.{ℕ, zero, suc}
use mathlib.Core.Path.{◌≡◌, refl, sym, ap, ◌∙◌}
use mathlib.Core.Bool.{Bool, true, false, ◌||◌}
use mathlib.Core.List.{List, [], ◌∷◌, map}
use native.Mathlib.Omega.{arith}
use lib.ListN.{length}
use Rattle.std.specs.List.{find, list_any}
use Rattle.lists.specs.Lists.{any}
use Rattle.store_rules.specs.Shelf.{Nogood, earliest, subsumes}
use Rattle.store_slot.specs.declared.Slot.{Slot}
use Rattle.store_slot.specs.Slot.{shown}
use Rattle.store.specs.declared.Store.{Store}
use Rattle.store.specs.Held.{held_in, slips_in, found_slot}

module _ (f : Nogood → Bool) where
  pub earliest_find : (ks : List Slot) → found_slot (find (λ k. f (shown k)) ks) ≡ earliest f (map shown ks)
  unfolding earliest
  earliest_find [] = refl
  earliest_find (k ∷ ks) = go (f (shown k)) refl (earliest_find ks)
    where
      go : (t : Bool) → f (shown k) ≡ t → found_slot (find (λ k. f (shown k)) ks) ≡ earliest f (map shown ks)
          → found_slot (find (λ k. f (shown k)) (k ∷ ks)) ≡ earliest f (map shown (k ∷ ks))
      go true e ih = rw e
      go false e ih = rw e ih

  pub any_shown : (ks : List Slot) → list_any (λ k. f (shown k)) ks ≡ any f (map shown ks)
  any_shown [] = refl
  any_shown (k ∷ ks) = ap (λ (b : Bool). f (shown k) || b) (any_shown ks)

-- a field that is an array of structs is known as long at `map` of the struct's parts
pub length_mapped : (A B : Type 0) (f : A → B) (l : List A) (n : ℕ) → length (map f l) ≡ n → length l ≡ n
length_mapped A B f [] n e = e
length_mapped A B f (x ∷ xs) zero e = absurd (omega arith)
length_mapped A B f (x ∷ xs) (suc n) e = ap suc (length_mapped A B f xs n (omega arith))

-- whether some slip subsumes the newcomer, told over the slots
pub some_told : (s : Store) (new : Slot) {r : Bool} → r ≡ list_any (λ k. subsumes (shown k) (shown new)) (held_in s) → any (λ k. subsumes k (shown new)) (slips_in s) ≡ r
unfolding slips_in
some_told s new e = sym (e ∙ any_shown (λ k. subsumes k (shown new)) (held_in s))
