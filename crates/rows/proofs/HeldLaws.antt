-- Lengths as numbers, missing above the cap: sums and the lesser of two. Assumes nothing.
use Prim.Native.Nat.{ℕ, ◌+◌, ◌≤◌, ◌<◌}
use mathlib.Core.Path.{◌≡◌, refl, sym, ap, subst, ◌∙◌}
use mathlib.Core.Bool.{Bool, true, false}
use mathlib.Core.List.{List}
use native.Mathlib.Omega.{arith}
use lib.Dec.{leb}
use borrow.Author.Tests.{leb-true, leb-false, le-leb, lt-leb}
use Rattle.walks.specs.Graph.{Graph, least, fits}
use Rattle.walks.specs.Lengths.{Least, none, some, lesser, plus, within}
use Rattle.rows.specs.Held.{kept, at_most, missing, code, held}

-- r is missing or more than the cap
abbrev pub Above : ℕ → Least → Type 0
Above cap none = Unit {0}
Above cap (some k) = cap < k

-- what a number x says of a length r
pub data Held (cap : ℕ) (r : Least) : ℕ → Type 0 where
  low : {k : ℕ} → k ≤ cap → r ≡ some k → Held cap r k
  high : Above cap r → Held cap r missing

pub held_is : (cap : ℕ) (r : Least) → Held cap r (held cap r)
unfolding held at_most code kept
held_is cap none = high tt
held_is cap (some k) = go (leb k cap) refl
  where
    go : (t : Bool) → leb k cap ≡ t → Held cap (some k) (code (kept t k))
    go true q = low (leb-true k cap q) refl
    go false q = high (leb-false k cap q)

pub is_held : {cap : ℕ} {r : Least} {x : ℕ} → Held cap r x → x ≡ held cap r
unfolding held at_most code kept
is_held {cap} (low {k = k} h e) = rw (e, le-leb k cap h)
is_held {cap} {r} (high a) = go r a
  where
    go : (r : Least) → Above cap r → missing ≡ held cap r
    go none a = refl
    go (some k) a = rw (lt-leb k cap a)

pub above_left : (cap : ℕ) (p q : Least) → Above cap p → Above cap (plus p q)
unfolding plus
above_left cap none q a = tt
above_left cap (some j) none a = tt
above_left cap (some j) (some k) a = omega arith

pub above_right : (cap : ℕ) (p q : Least) → Above cap q → Above cap (plus p q)
unfolding plus
above_right cap none q a = tt
above_right cap (some j) none a = tt
above_right cap (some j) (some k) a = omega arith

-- the sum of two lengths held as x and y: too much by x, too much by both, or x + y
pub sum_over : {cap : ℕ} {p : Least} (q : Least) {x : ℕ} → cap < x → Held cap p x → Held cap (plus p q) missing
sum_over q h (low l e) = absurd (omega arith)
sum_over {cap} {p} q h (high a) = high (above_left cap p q a)

pub sum_both : {cap : ℕ} {p q : Least} {x y : ℕ} → cap < missing → x ≤ cap → cap < x + y → Held cap p x → Held cap q y → Held cap (plus p q) missing
unfolding plus
sum_both c h s (low {k = j} l e) (low {k = k} m f) = high (rw (e, f) s)
sum_both {cap} {p} {q} c h s P (high a) = high (above_right cap p q a)
sum_both {cap} {p} {q} c h s (high a) (low m f) = high (above_left cap p q a)

pub sum_low : {cap : ℕ} {p q : Least} {x y : ℕ} → cap < missing → x + y ≤ cap → Held cap p x → Held cap q y → Held cap (plus p q) (x + y)
unfolding plus
sum_low c h (low l e) (low m f) = low h (rw (e, f))
sum_low c h (low l e) (high a) = absurd (omega arith)
sum_low c h (high a) Q = absurd (omega arith)

pub lesser_above : (cap : ℕ) (p q : Least) → Above cap p → Above cap q → Above cap (lesser p q)
unfolding lesser
lesser_above cap none q a b = b
lesser_above cap (some j) none a b = a
lesser_above cap (some j) (some k) a b = omega arith

pub lesser_right : (cap k : ℕ) (p : Least) → Above cap p → k ≤ cap → lesser p (some k) ≡ some k
unfolding lesser
lesser_right cap k none a h = refl
lesser_right cap k (some j) a h = ap some (omega arith)

pub lesser_left : (cap k : ℕ) (p : Least) → Above cap p → k ≤ cap → lesser (some k) p ≡ some k
unfolding lesser
lesser_left cap k none a h = refl
lesser_left cap k (some j) a h = ap some (omega arith)

-- the lesser of two lengths held as x and y
pub lesser_second : {cap : ℕ} {p q : Least} {x y : ℕ} → cap < missing → y < x → Held cap p x → Held cap q y → Held cap (lesser p q) y
unfolding lesser
lesser_second c h (low l e) (low m f) = low m (rw (e, f) (ap some (omega arith)))
lesser_second c h (low l e) (high a) = absurd (omega arith)
lesser_second {cap} {p} c h (high a) (low {k = k} m f) = low m (rw f (lesser_right cap k p a m))
lesser_second c h (high a) (high b) = absurd (omega arith)

pub lesser_first : {cap : ℕ} {p q : Least} {x y : ℕ} → cap < missing → x ≤ y → Held cap p x → Held cap q y → Held cap (lesser p q) x
unfolding lesser
lesser_first c h (low l e) (low m f) = low l (rw (e, f) (ap some (omega arith)))
lesser_first {cap} {p} {q} c h (low {k = k} l e) (high a) = low l (rw e (lesser_left cap k q a l))
lesser_first c h (high a) (low m f) = absurd (omega arith)
lesser_first {cap} {p} {q} c h (high a) (high b) = high (lesser_above cap p q a b)

pub above_none : (cap : ℕ) {r : Least} → r ≡ none → Above cap r
above_none cap e = subst (λ (x : Least). Above cap x) (sym e) tt

pub holds : (cap : ℕ) (r : Least) {x : ℕ} → x ≡ held cap r → Held cap r x
holds cap r e = subst (λ (x : ℕ). Held cap r x) (sym e) (held_is cap r)

-- a length as a number is at most the cap exactly where the length is
pub held_within : (cap : ℕ) (r : Least) → cap < missing → leb (held cap r) cap ≡ within r cap
unfolding within
held_within cap r h = go (held cap r) (held_is cap r)
  where
    above : (r : Least) → Above cap r → false ≡ within r cap
    above none a = refl
    above (some k) a = sym (lt-leb k cap a)

    go : (x : ℕ) → Held cap r x → leb x cap ≡ within r cap
    go x (low {k = k} l e) = rw e
    go x (high a) = lt-leb missing cap h ∙ above r a

-- a walk fits where the length that is held is at most the cap
pub fits_held : (G : Graph) (s t cap : ℕ) (c : ℕ → Bool) (goals : List ℕ) → cap < missing
    → fits G s t cap c goals ≡ leb (held cap (least G c goals s t)) cap
unfolding fits
fits_held G s t cap c goals small = sym (held_within cap (least G c goals s t) small)
