-- Sums and the lesser of two lengths by numbers that may be more than the cap: where a number is above it, so is the length. Assumes nothing.
use Prim.Native.Nat.{ℕ, ◌+◌, ◌≤◌, ◌<◌}
use mathlib.Core.Path.{◌≡◌, refl, sym, ap, ◌∙◌}
use native.Mathlib.Omega.{arith}
use native.Mathlib.Decide.{dec_lt}
use Rattle.walks.specs.Lengths.{Least, some, lesser, plus}
use Rattle.rows.proofs.HeldLaws.{Above, Held, low, high, held_is, is_held, holds, above_left, above_right, lesser_above, lesser_right, lesser_left}
use Rattle.rows.specs.Held.{missing, held}

-- x stands for r where it is at most the cap, and any greater number for what is missing or above it
data Loose (cap : ℕ) (r : Least) : ℕ → Type 0 where
  exact : {k : ℕ} → k ≤ cap → r ≡ some k → Loose cap r k
  over : {x : ℕ} → cap < x → Above cap r → Loose cap r x

loose : (cap x : ℕ) (r : Least) → cap < missing → held cap (some x) ≡ held cap r → Loose cap r x
loose cap x r c e = go refl (holds cap r e) (held_is cap (some x))
  where
    go : {y z : ℕ} → y ≡ z → Held cap r y → Held cap (some x) z → Loose cap r x
    go f (low {k = k} l p) (low m q) = let z : x ≡ k = cc in rw z (exact l p)
    go f (low l p) (high a) = absurd (omega arith)
    go f (high a) (low m q) = absurd (omega arith)
    go f (high a) (high b) = over b a

is_loose : {cap x : ℕ} {r : Least} → Loose cap r x → held cap (some x) ≡ held cap r
is_loose {cap} (exact l e) = ap (held cap) (sym e)
is_loose {r = r} (over c a) = sym (is_held {r = some _} (high c)) ∙ is_held {r = r} (high a)

loose_sum : {cap : ℕ} {p q : Least} {x y : ℕ} → cap < missing → Held cap p x → Held cap q y → Loose cap (plus p q) (x + y)
unfolding plus
loose_sum {cap} {p} {q} c (low {k = j} l e) (low {k = k} m f) = go (dec_lt cap (j + k))
  where
    go : Dec (cap < j + k) → Loose cap (plus p q) (j + k)
    go (yes h) = over h (rw (e, f) h)
    go (no h) = exact {k = j + k} (omega arith) (rw (e, f))
loose_sum {cap} {p} {q} c (low {k = j} l e) (high a) = over {x = j + missing} (omega arith) (above_right cap p q a)
loose_sum {cap} {p} {q} {y = y} c (high a) Q = over {x = missing + y} (omega arith) (above_left cap p q a)

-- the lesser of two lengths by the numbers x and y
loose_second : {cap : ℕ} {p q : Least} {x y : ℕ} → y < x → Loose cap p x → Loose cap q y → Loose cap (lesser p q) y
unfolding lesser
loose_second h (exact l e) (exact m f) = exact m (rw (e, f) (ap some (omega arith)))
loose_second h (exact l e) (over c a) = absurd (omega arith)
loose_second {cap} {p} h (over c a) (exact {k = k} m f) = exact m (rw f (lesser_right cap k p a m))
loose_second {cap} {p} {q} h (over c a) (over d b) = over d (lesser_above cap p q a b)

loose_first : {cap : ℕ} {p q : Least} {x y : ℕ} → x ≤ y → Loose cap p x → Loose cap q y → Loose cap (lesser p q) x
unfolding lesser
loose_first h (exact l e) (exact m f) = exact l (rw (e, f) (ap some (omega arith)))
loose_first {cap} {p} {q} h (exact {k = k} l e) (over c a) = exact l (rw e (lesser_left cap k q a l))
loose_first h (over c a) (exact m f) = absurd (omega arith)
loose_first {cap} {p} {q} h (over c a) (over d b) = over c (lesser_above cap p q a b)

module _ (cap : ℕ) (p q s : Least) (x y r : ℕ) (c : cap < missing) (e : x ≡ held cap p) (f : y ≡ held cap q) (g : held cap (some r) ≡ held cap s) where
  -- the sum is less than r, or it is not
  pub better_sum : x + y < r → held cap (some (x + y)) ≡ held cap (lesser s (plus p q))
  better_sum h = is_loose (loose_second h (loose cap r s c g) (loose_sum c (holds cap p e) (holds cap q f)))

  pub better_kept : r ≤ x + y → held cap (some r) ≡ held cap (lesser s (plus p q))
  better_kept h = is_loose (loose_first h (loose cap r s c g) (loose_sum c (holds cap p e) (holds cap q f)))
