-- Laws of the work that a call leaves, zeroed or as found. Assumes nothing.
use Prim.Native.Nat.{ℕ}
use mathlib.Core.Path.{◌≡◌, refl}
use mathlib.Core.Bool.{Bool, true, false}
use mathlib.Core.List.{List}
use lib.Dec.{leb, ltb}
use borrow.Author.Tests.{ne_eqb, leb-true, leb-false, lt-ltb, le-ltb}
use Rattle.lists.specs.Lists.{pick}
use Rattle.work.specs.Left.{is_zeroed, left}

module _ (zero : List ℕ → List ℕ) (work : List ℕ) where
  -- a finished call zeroes it
  pub left_finished : left zero 0 work ≡ zero work
  unfolding left is_zeroed
  left_finished = refl

  -- a refusal leaves what its number says
  pub left_refused : (number : ℕ) → (number ≡ 0 → ⊥) → left zero number work ≡ pick (leb number 13) work (zero work)
  unfolding left is_zeroed
  left_refused number n = rw (ne_eqb number 0 n) (go (leb number 13) refl)
    where
      go : (t : Bool) → leb number 13 ≡ t → pick (ltb 13 number) (zero work) work ≡ pick t work (zero work)
      go true e = rw (le-ltb 13 number (leb-true number 13 e))
      go false e = rw (lt-ltb 13 number (leb-false number 13 e))
