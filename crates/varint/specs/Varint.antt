-- Numbers in groups of seven bits, lowest group first, the high bit of a byte set when another group follows (docs/FORMATS.md, 'Numbers').
use Rattle.std.specs.Prelude.{ℕ, zero, suc, ◌+◌, ◌-◌, ◌*◌, ◌/◌, ◌%◌, Bool, ◌&&◌, List, [], ◌∷◌, ◌++◌, eqb, ltb}
use Rattle.lists.specs.Lists.{pick}

-- What reading gives: a value with the bytes after it, or the number of a refusal.
pub data Read (A : Type 0) : Type 0 where
  got : A → List ℕ → Read A
  refuse : ℕ → Read A

-- reads on after a value
unfoldable pub after : {A B : Type 0} → Read A → (A → List ℕ → Read B) → Read B
after (got a bs) f = f a bs
after (refuse e) f = refuse e

-- b is the last group, and `left` groups more could have followed, 3 where it is the first: a last group of zero that is not the first is needless
unfoldable pub last_group : ℕ → ℕ → List ℕ → Read ℕ
last_group left b bs = pick (eqb b 0 && ltb left 3) (refuse 4) (got b bs)

-- the groups read after the byte b stand above its seven bits
unfoldable pub above : ℕ → Read ℕ → Read ℕ
above b (got x bs) = got (b - 128 + 128 * x) bs
above b (refuse e) = refuse e

-- a number of which `left` groups may follow the first; a byte that asks for one group more draws 4 at once
unfoldable pub read_groups : ℕ → List ℕ → Read ℕ
read_groups left [] = refuse 3
read_groups zero (b ∷ bs) = pick (ltb b 128) (last_group zero b bs) (refuse 4)
read_groups (suc left) (b ∷ bs) = pick (ltb b 128) (last_group (suc left) b bs) (above b (read_groups left bs))

-- the number at the front: 3, the bytes end first; 4, more than four groups or a needless last group of zero
unfoldable pub read_number : List ℕ → Read ℕ
read_number bs = read_groups 3 bs

-- a number that was read to its end is judged: where the test fails, the refusal e
unfoldable pub judged : ℕ → (ℕ → Bool) → ℕ → List ℕ → Read ℕ
judged e ok x bs = pick (ok x) (got x bs) (refuse e)

unfoldable pub number : ℕ → (ℕ → Bool) → List ℕ → Read ℕ
number e ok bs = after (read_number bs) (judged e ok)

-- k of a kind, one after the other
unfoldable pub several : {A : Type 0} → (List ℕ → Read A) → ℕ → List ℕ → Read (List A)
several f zero bs = got [] bs
several f (suc k) bs = after (f bs) (λ a bs₁. after (several f k bs₁) (λ xs bs₂. got (a ∷ xs) bs₂))

-- the shortest form of a number below 2 to the 28, in at most k + 1 groups
unfoldable pub write_groups : ℕ → ℕ → List ℕ
write_groups zero x = x ∷ []
write_groups (suc k) x = pick (ltb x 128) (x ∷ []) ((128 + x % 128) ∷ write_groups k (x / 128))

unfoldable pub write_number : ℕ → List ℕ
write_number x = write_groups 3 x

-- numbers in a row
unfoldable pub write_numbers : List ℕ → List ℕ
write_numbers [] = []
write_numbers (x ∷ xs) = write_number x ++ write_numbers xs
