-- Laws of lines: a difference as a signed number, how long a line is, rows as written number by number, and what stands behind a byte. Assumes nothing.
use Rattle.std.proofs.Common.{◌≡◌, refl, sym, ap, ◌∙◌, ℕ, zero, suc, ◌+◌, ◌-◌, ◌*◌, ◌/◌, ◌%◌, ◌^◌, ◌≤◌, ◌<◌, List, [], ◌∷◌, ◌++◌, length, set, Bool, true, false, pos, ◌-ℤ◌, arith}
use Rattle.std.specs.Prelude.{leb, negsuc, if◌then◌else◌, ◌==◌}
use Rattle.lists.specs.Lists.{pick, Put}
use Rattle.std.proofs.lemmas.Fmt.{length-decimal-le}
use Rattle.std.proofs.lemmas.Int.{ints}
use Rattle.std.specs.Fmt.{decimal, digits, digits_onto, digit_glyph, signed_decimal}
use borrow.Author.Tests.{le-leb, lt-leb, leb-true, leb-false}
use lib.ListN.{length-append}
use Rattle.lists.proofs.FrontLaws.{Room, first_fits, put_none, put_byte}
use Rattle.lists.proofs.Pigeonhole.{Below}
use Rattle.lists.proofs.RowLaws.{Rows}
use Rattle.text_lines.specs.Lines.{spaced, row, line, number_line, difference_line, lines}

-- a difference that is not negative, and one that is
pub difference_low : (k a : ℕ) → a ≤ k → difference_line k a ≡ number_line (k - a)
unfolding difference_line
difference_low k a h = rw (le-leb a k h)

pub difference_high : (k a : ℕ) → k < a → difference_line k a ≡ 45 ∷ number_line (a - k)
unfolding difference_line
difference_high k a h = rw (lt-leb a k h)

-- the same as a signed number
pub difference_signed : (k a : ℕ) → signed_decimal (pos k -ℤ pos a) ++ (10 ∷ []) ≡ difference_line k a
difference_signed k a = go (leb a k) refl
  where
    go : (t : Bool) → leb a k ≡ t → signed_decimal (pos k -ℤ pos a) ++ (10 ∷ []) ≡ difference_line k a
    go true e =
        let h : a ≤ k = leb-true a k e in
        let z : pos k -ℤ pos a ≡ pos (k - a) = omega (arith, ints) in
        rw z (sym (difference_low k a h))
    go false e =
        let h : k < a = leb-false a k e in
        let z : pos k -ℤ pos a ≡ negsuc (a - k - 1) = omega (arith, ints) in
        let n : suc (a - k - 1) ≡ a - k = omega arith in
        rw z (ap (λ (m : ℕ). 45 ∷ number_line m) n ∙ sym (difference_high k a h))

-- ten digits at most for a number of 32 bits, and never more than 64
decimal_size : (n : ℕ) → n < 2 ^ 32 → length (decimal n) ≤ 10
decimal_size n h = length-decimal-le 10 n (omega arith) (omega arith) (omega arith)

onto_size : (k n : ℕ) (upper : Bool) (acc : List ℕ) → length (digits_onto k 10 upper n acc) ≤ k + length acc
onto_size zero n upper acc = omega arith
onto_size (suc k) n upper acc = go (n / 10 == 0) (onto_size k (n / 10) upper (digit_glyph upper (n % 10) ∷ acc))
  where
    go : (t : Bool) → length (digits_onto k 10 upper (n / 10) (digit_glyph upper (n % 10) ∷ acc)) ≤ k + suc (length acc)
        → length (if t then digit_glyph upper (n % 10) ∷ acc else digits_onto k 10 upper (n / 10) (digit_glyph upper (n % 10) ∷ acc)) ≤ suc k + length acc
    go true h = omega arith
    go false h = omega arith

decimal_short : (n : ℕ) → length (decimal n) ≤ 64
unfolding digits
decimal_short n = omega (arith, onto_size 64 n false [])

-- a line of one number
pub one_size : (word : List ℕ) (x : ℕ) → length (line word (x ∷ [])) ≤ length word + 66
one_size word x = simp length-append (omega (arith, decimal_short x))

-- a line of numbers of 32 bits: a space and ten digits at most for each
row_size : (xs : List ℕ) → Below 4294967296 xs → length (row xs) ≤ 11 * length xs
row_size [] b = omega arith
row_size (x ∷ xs) b = simp length-append (omega (arith, decimal_size x (omega (arith, b.0)), row_size xs b.1))

pub line_size : (word xs : List ℕ) → Below 4294967296 xs → length (line word xs) ≤ length word + 11 * length xs + 1
line_size word xs b = simp length-append (omega (arith, row_size xs b))

-- ten digits at most and the line's end, and before them the minus
pub number_size : (n : ℕ) → n < 2 ^ 32 → length (number_line n) ≤ 11
number_size n h = simp length-append (omega (arith, decimal_size n h))

pub difference_size : (k a : ℕ) → k < 2 ^ 32 → a < 2 ^ 32 → length (difference_line k a) ≤ 12
unfolding difference_line
difference_size k a h l = go (leb a k)
  where
    go : (t : Bool) → length (pick t (number_line (k - a)) (45 ∷ number_line (a - k))) ≤ 12
    go true = omega (arith, number_size (k - a) (omega arith))
    go false = omega (arith, number_size (a - k) (omega arith))

-- so many bytes a line, so many in all
pub lines_size : (f : ℕ → List ℕ) (m : ℕ) → ((x : ℕ) → length (f x) ≤ m) → (xs : List ℕ) → length (lines f xs) ≤ m * length xs
lines_size f m h [] = omega arith
lines_size f m h (x ∷ xs) = simp length-append (omega (arith, h x, lines_size f m h xs))

-- how long a line is
pub line_length : (word xs : List ℕ) → length (line word xs) ≡ length word + length (row xs) + 1
line_length word xs = simp length-append (omega arith)

-- a row is written number by number, each behind its space
pub spaced_rows : Rows spaced row
spaced_rows = record { empty = refl; first = λ x xs. refl }

-- A byte in front, and the room for a text behind it. Neither goes by which byte it is.
module _ (x : ℕ) (xs out : List ℕ) (fits : length (x ∷ xs) ≤ length out) where
  pub behind_byte : Room (x ∷ []) xs out
  behind_byte = record { fits = fits }

  pub byte_room : Room [] (x ∷ []) out
  byte_room = record { fits = first_fits behind_byte }

  pub byte_put : Put (x ∷ []) out (set out 0 x) 1
  byte_put = put_byte byte_room (put_none out)
