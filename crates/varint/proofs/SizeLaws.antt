-- How many bytes the numbers take that `write_number` and `write_numbers` write: one more at each power of 128, and four at most. Assumes nothing.
use Prim.Native.Nat.{ℕ, zero, suc, ◌+◌, ◌*◌, ◌/◌, ◌%◌, ◌≤◌, ◌<◌}
use mathlib.Core.Path.{◌≡◌, sym, ap}
use mathlib.Core.List.{List, [], ◌∷◌}
use mathlib.Core.Bool.{Bool, true, false}
use native.Mathlib.Omega.{arith}
use lib.Dec.{ltb}
use native.Mathlib.Numerals.{add-one}
use lib.ListN.{length, get_or, drop, length-append, drop_of_length-le}
use lib.Seq.{drop-cons}
use borrow.Author.Tests.{le-ltb}
use Rattle.lists.specs.Lists.{pick}
use Rattle.varint.proofs.WriteLaws.{groups_last}
use Rattle.varint.specs.Varint.{write_groups, write_number, write_numbers}

last_size : (k x : ℕ) → x < 128 → 1 ≡ length (write_groups k x)
last_size k x h = sym (ap length (groups_last k x (omega arith)))

groups_more : (k x : ℕ) → 128 ≤ x → {n : ℕ} → n ≡ length (write_groups k (x / 128)) → suc n ≡ length (write_groups (suc k) x)
unfolding write_groups
groups_more k x h e = rw (le-ltb x 128 h) (ap suc e)

module _ (x : ℕ) where
  -- a number below 128 is one byte, itself
  pub number_byte : x < 128 → write_number x ≡ x ∷ []
  unfolding write_number
  number_byte h = groups_last 3 x (omega arith)

  pub size_one : x < 128 → 1 ≡ length (write_number x)
  size_one h = sym (ap length (number_byte h))

  pub size_two : 128 ≤ x → x < 16384 → 2 ≡ length (write_number x)
  unfolding write_number
  size_two l h = groups_more 2 x l (last_size 2 (x / 128) (omega arith))

  pub size_three : 16384 ≤ x → x < 2097152 → 3 ≡ length (write_number x)
  unfolding write_number
  size_three l h = groups_more 2 x (omega arith) (groups_more 1 (x / 128) (omega arith) (last_size 1 (x / 128 / 128) (omega arith)))

  pub size_four : 2097152 ≤ x → x < 268435456 → 4 ≡ length (write_number x)
  unfolding write_number
  size_four l h =
      groups_more 2 x (omega arith)
      (groups_more 1 (x / 128) (omega arith) (groups_more 0 (x / 128 / 128) (omega arith) (last_size 0 (x / 128 / 128 / 128) (omega arith))))

pub ruleset sized = (size_one, size_two, size_three, size_four)

groups_few : (k x : ℕ) → length (write_groups k x) ≤ suc k
unfolding write_groups
groups_few zero x = omega arith
groups_few (suc k) x = go (ltb x 128) (groups_few k (x / 128))
  where
    go : (t : Bool) → length (write_groups k (x / 128)) ≤ suc k → length (pick t (x ∷ []) ((128 + x % 128) ∷ write_groups k (x / 128))) ≤ suc (suc k)
    go true h = omega arith
    go false h = omega arith

-- a number takes at most four bytes
pub numbers_few : (xs : List ℕ) → length (write_numbers xs) ≤ 4 * length xs
unfolding write_numbers write_number
numbers_few [] = omega arith
numbers_few (x ∷ xs) = omega (arith, length-append (write_groups 3 x) (write_numbers xs), groups_few 3 x, numbers_few xs)

-- `total` bytes were counted, and those of the numbers from j on are left
pub record Measuring (xs : List ℕ) (total j : ℕ) : Type 0 where
  pub few : j ≤ length xs
  pub same : length (write_numbers xs) ≡ total + length (write_numbers (drop j xs))

pub begun : (xs : List ℕ) → Measuring xs 0 0
begun xs = record { few = omega arith; same = omega arith }

module _ {xs : List ℕ} {total j : ℕ} (w : Measuring xs total j) where
  pub done : length xs ≤ j → total ≡ length (write_numbers xs)
  unfolding write_numbers
  done h = omega (arith, w.same, ap (λ (ys : List ℕ). length (write_numbers ys)) (drop_of_length-le xs h))

  module _ (h : j < length xs) {n : ℕ} (e : n ≡ length (write_number (get_or xs j 0))) where
    pub more : Measuring xs (total + n) (j + 1)
    unfolding write_numbers
    more =
        let s : length (write_numbers (drop j xs)) ≡ n + length (write_numbers (drop (j + 1) xs)) =
        rw (add-one j, drop-cons xs j 0 h, length-append, e) in
        record { few = omega arith; same = omega (arith, w.same) }

    -- the sum fits wherever four bytes for each number do
    pub within : total + n ≤ 4 * length xs
    within = omega (arith, more.same, numbers_few xs)
