-- Laws of reading a number group by group from the front: what is read of the bytes that are left, above the groups that were read before. Each byte
-- decides one case of `read_groups`, and the groups read so far are a sum and the weight of the next group. Assumes nothing.
use Prim.Native.Nat.{ℕ, zero, suc, ◌+◌, ◌-◌, ◌*◌, ◌≤◌, ◌<◌}
use mathlib.Core.Path.{◌≡◌, refl, ap, sym, ◌∙◌}
use mathlib.Core.List.{List, [], ◌∷◌}
use native.Mathlib.Nat.{mul_assoc, le-mul_of_pos_right, mul-le-mul_left, mul-le-mul}
use native.Mathlib.Omega.{arith}
use lib.ListN.{length}
use borrow.Author.Tests.{lt-ltb, le-ltb}
use Rattle.varint.proofs.ReadLaws.{below, below_none, below_above, none_yet, at_last, last_kept, last_needless, weights, weights_some}
use Rattle.varint.specs.Varint.{Read, got, refuse, above, read_groups, read_number}

-- what is read where i groups stand before: after the fourth there is none
abbrev pub groups_from : ℕ → List ℕ → Read ℕ
groups_from zero bs = refuse 4
groups_from (suc left) bs = read_groups left bs

none_left : (left : ℕ) (rest : List ℕ) → length rest ≡ 0 → read_groups left rest ≡ refuse 3
none_left left [] e = none_yet left
none_left left (b ∷ tail) e = absurd (omega arith)

-- a byte with the high bit set stands below the groups behind it
more_from : (left b : ℕ) (tail : List ℕ) → 128 ≤ b → read_groups left (b ∷ tail) ≡ above b (groups_from left tail)
unfolding read_groups above
more_from zero b tail l = simp (le-ltb b 128 l)
more_from (suc left) b tail l = simp (le-ltb b 128 l)

-- the number of the bytes s, of which `rest` are left behind i groups with the value `sum`; the next group has the weight `scale`
pub record Taking (s : List ℕ) (i : ℕ) (rest : List ℕ) (scale sum : ℕ) : Type 0 where
  pub few : i ≤ 4
  pub low : sum < scale
  pub weight : scale * weights (4 - i) ≡ 268435456
  pub same : read_number s ≡ below sum scale (groups_from (4 - i) rest)

pub begun : (s : List ℕ) → Taking s 0 s 1 0
unfolding read_number
begun s = record { few = omega arith; low = omega arith; weight = refl; same = sym (below_none (read_groups 3 s)) }

module _ {s : List ℕ} {i scale sum : ℕ} {rest : List ℕ} (w : Taking s i rest scale sum) where
  pub too_many : 4 ≤ i → read_number s ≡ refuse 4
  too_many h = let z : 4 - i ≡ 0 = omega arith in w.same ∙ ap (λ (n : ℕ). below sum scale (groups_from n rest)) z

  module _ (h : i < 4) where
    left_at : read_number s ≡ below sum scale (read_groups (3 - i) rest)
    left_at = let z : 4 - i ≡ suc (3 - i) = omega arith in w.same ∙ ap (λ (n : ℕ). below sum scale (groups_from n rest)) z

    pub ends : length rest ≡ 0 → read_number s ≡ refuse 3
    ends e = left_at ∙ ap (below sum scale) (none_left (3 - i) rest e)

    module _ {b : ℕ} {tail : List ℕ} (e : rest ≡ b ∷ tail) where
      pub needless : b ≡ 0 → 0 < i → read_number s ≡ refuse 4
      needless z l = left_at ∙ rw (e, at_last (3 - i) b tail (lt-ltb b 128 (omega (arith, z))), last_needless (3 - i) b tail z (omega arith))

      pub gives : b < 128 → (b ≡ 0 → i ≡ 0) → read_number s ≡ got (sum + scale * b) tail
      gives l f = left_at ∙ rw (e, at_last (3 - i) b tail (lt-ltb b 128 l), last_kept (3 - i) b tail (λ z. omega (arith, f z)))

    -- so neither a sum nor a weight passes its type
    pub scale_low : scale ≤ 2097152
    scale_low =
        let z : 4 - i ≡ suc (3 - i) = omega arith in
        let e : scale * (128 * weights (3 - i)) ≡ 268435456 = ap (λ (n : ℕ). scale * weights n) (sym z) ∙ w.weight in
        omega (arith, le-mul_of_pos_right scale (weights_some (3 - i)), e, mul_assoc scale 128 (weights (3 - i)))

    pub product_low : (b : ℕ) → b ≤ 127 → scale * b ≤ 2097152 * 127
    product_low b l = mul-le-mul scale_low l

    pub sum_low : (b : ℕ) → b ≤ 127 → sum + scale * b < 268435456
    sum_low b l = omega (arith, scale_low, product_low b l, w.low)

    pub more : {b : ℕ} {tail : List ℕ} → rest ≡ b ∷ tail → 128 ≤ b → b < 256 → Taking s (i + 1) tail (scale * 128) (sum + scale * (b - 128))
    more {b} {tail} e l u =
        let z : 4 - (i + 1) ≡ 3 - i = omega arith in
        let n : 4 - i ≡ suc (3 - i) = omega arith in
        record {
          few = omega arith;
          low = omega (arith, w.low, mul-le-mul_left {m = b - 128} {n = 127} scale (omega arith));
          weight = rw (z, mul_assoc) (ap (λ (n : ℕ). scale * weights n) (sym n) ∙ w.weight);
          same = rw z (left_at ∙ ap (below sum scale) (ap (read_groups (3 - i)) e ∙ more_from (3 - i) b tail l) ∙ below_above sum scale b (groups_from (3 - i) tail));
        }

pub ruleset taken = (begun, ends, too_many, needless, gives, more, scale_low, product_low, sum_low)

-- a number of one byte
pub one : {s : List ℕ} {b : ℕ} {tail : List ℕ} → s ≡ b ∷ tail → b < 128 → read_number s ≡ got b tail
one {s} {b} {tail} e l = gives (begun s) (omega arith) e l (λ z. refl) ∙ ap (λ (n : ℕ). got n tail) (omega arith)
