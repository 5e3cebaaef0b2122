-- Laws of reading a number group by group: what a byte decides, and what is read below the groups that were read before it. Assumes nothing.
use Prim.Native.Nat.{ℕ, zero, suc, ◌+◌, ◌-◌, ◌*◌, ◌≤◌, ◌<◌}
use mathlib.Core.Path.{◌≡◌, refl, ap}
use mathlib.Core.Bool.{true}
use mathlib.Core.List.{List, [], ◌∷◌}
use native.Mathlib.Nat.{mul-add, mul_assoc, zero-add, one-mul}
use native.Mathlib.Omega.{arith}
use lib.Dec.{ltb}
use borrow.Author.Tests.{lt-ltb, le-ltb, ne_eqb}
use Rattle.varint.specs.Varint.{Read, got, refuse, last_group, above, read_groups}

-- what is read where groups with the value `sum` stand before, and the next group has the weight `scale`
abbrev pub below : ℕ → ℕ → Read ℕ → Read ℕ
below sum scale (got x bs) = got (sum + scale * x) bs
below sum scale (refuse e) = refuse e

pub below_none : (r : Read ℕ) → below 0 1 r ≡ r
below_none (got x bs) = simp (one-mul, zero-add)
below_none (refuse e) = refl

pub below_above : (sum scale b : ℕ) (r : Read ℕ) → below sum scale (above b r) ≡ below (sum + scale * (b - 128)) (scale * 128) r
unfolding above
below_above sum scale b (got x bs) =
    let p : sum + scale * (b - 128 + 128 * x) ≡ sum + scale * (b - 128) + scale * 128 * x = simp (mul-add, mul_assoc) (omega arith) in
    ap (λ (y : ℕ). got y bs) p
below_above sum scale b (refuse e) = refl

pub none_yet : (left : ℕ) → read_groups left [] ≡ refuse 3
unfolding read_groups
none_yet zero = refl
none_yet (suc left) = refl

pub at_last : (left b : ℕ) (bs : List ℕ) → ltb b 128 ≡ true → read_groups left (b ∷ bs) ≡ last_group left b bs
unfolding read_groups
at_last zero b bs q = rw q
at_last (suc left) b bs q = rw q

-- a last group is taken unless it is a needless zero
pub last_kept : (left b : ℕ) (bs : List ℕ) → (b ≡ 0 → 3 ≤ left) → last_group left b bs ≡ got b bs
unfolding last_group
last_kept left zero bs f = simp (le-ltb _ _ (f refl))
last_kept left (suc b) bs f = let z : suc b ≡ 0 → ⊥ = λ e. omega (arith, e) in simp (ne_eqb (suc b) 0 z)

pub last_needless : (left b : ℕ) (bs : List ℕ) → b ≡ 0 → left < 3 → last_group left b bs ≡ refuse 4
unfolding last_group
last_needless left b bs z l = simp (z, lt-ltb _ _ l)

-- the weight of the highest group, where `left` groups more can follow; and one more than the greatest number of so many groups
abbrev pub weights : ℕ → ℕ
weights zero = 1
weights (suc n) = 128 * weights n

pub weights_some : (n : ℕ) → 0 < weights n
weights_some zero = omega arith
weights_some (suc n) = let h : 0 < weights n = weights_some n in omega arith
