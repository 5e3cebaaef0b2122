-- Lengths as the code tells them: a number, or none where a length is missing or more than the cap. Assumes nothing.
use Prim.Native.Nat.{ℕ, ◌+◌, ◌≤◌, ◌<◌}
use mathlib.Core.Path.{◌≡◌, refl, sym, ap}
use mathlib.Core.Bool.{Bool, true, false}
use mathlib.Core.List.{List}
use native.Mathlib.Omega.{arith}
use native.Mathlib.Decide.{dec_lt}
use lib.Dec.{leb}
use borrow.Author.Tests.{leb-false, le-leb, lt-leb}
use Rattle.std.specs.Bool.{then_some}
use Rattle.std.specs.Option.{is_some, unwrap_or}
use Rattle.std.specs.declared.option.Option.{Option}
use Rattle.std.specs.declared.option.Option.TheVariants.{None, Some}
use Rattle.walks.proofs.GoalLaws.{impossible}
use Rattle.walks.specs.Graph.{Graph, least, fits}
use Rattle.walks.specs.Lengths.{Least, none, some, plus, within}
use Rattle.rows.proofs.HeldLaws.{Above, Held, low, high, above_left, above_right, sum_over, sum_both, sum_low}
use Rattle.rows.specs.Held.{missing, kept, at_most, code, held}
use Rattle.goals.specs.Told.{as_least}

-- none is told of what is missing or above the cap
pub told_high : (cap : ℕ) (r : Least) → Above cap r → none ≡ at_most cap r
unfolding at_most kept
told_high cap none a = refl
told_high cap (some k) a = rw (lt-leb k cap a)

pub told_low : (cap k : ℕ) {r : Least} → k ≤ cap → r ≡ some k → some k ≡ at_most cap r
unfolding at_most kept
told_low cap k h e = rw (e, le-leb k cap h)

-- a number is told where it is at most the cap
pub told_if : (cap k : ℕ) {r : Least} → r ≡ some k → as_least (then_some (leb k cap) k) ≡ at_most cap r
unfolding at_most kept
told_if cap k e = rw e (go (leb k cap))
  where
    go : (t : Bool) → as_least (then_some t k) ≡ kept t k
    go true = refl
    go false = refl

-- what is held as a number
pub told : {cap : ℕ} {r : Least} {k : ℕ} → cap < missing → Held cap r k → as_least (then_some (leb k cap) k) ≡ at_most cap r
told {cap} c (low {k = k} h e) = told_if cap k e
told {cap} {r} c (high a) = rw (lt-leb missing cap c) (told_high cap r a)

module _ {cap : ℕ} {p q : Least} {x y : ℕ} (small : cap < missing) (P : Held cap p x) (Q : Held cap q y) where
  -- a sum above the cap
  pub told_over : cap < x + y → none ≡ at_most cap (plus p q)
  told_over h = rw (lt-leb missing cap small) at (told small (over (dec_lt cap x)))
    where
      over : Dec (cap < x) → Held cap (plus p q) missing
      over (yes o) = sum_over q o P
      over (no o) = sum_both small (omega arith) h P Q

  pub told_sum : (z most : ℕ) → z ≡ x + y → most ≡ cap → as_least (then_some (leb z most) z) ≡ at_most cap (plus p q)
  told_sum z most e f = rw (e, f) (go (dec_lt cap (x + y)))
    where
      go : Dec (cap < x + y) → as_least (then_some (leb (x + y) cap) (x + y)) ≡ at_most cap (plus p q)
      go (yes o) = rw (lt-leb (x + y) cap o) (told_over o)
      go (no o) = told small (sum_low small (omega arith) P Q)

-- what is told, as a number that is held
pub told_held : (cap : ℕ) (r : Least) (o : Option ℕ) → as_least o ≡ at_most cap r → unwrap_or o missing ≡ held cap r
unfolding held code
told_held cap r None e = ap code e
told_held cap r (Some x) e = ap code e

-- a sum is none where one part is
above_told : (cap : ℕ) (r : Least) → none ≡ at_most cap r → Above cap r
unfolding at_most kept
above_told cap none e = tt
above_told cap (some a) e = go (leb a cap) refl e
  where
    go : (t : Bool) → leb a cap ≡ t → none ≡ kept t a → cap < a
    go true q e = impossible e
    go false q e = leb-false a cap q

pub told_left : (cap : ℕ) (p q : Least) → none ≡ at_most cap p → none ≡ at_most cap (plus p q)
told_left cap p q e = told_high cap (plus p q) (above_left cap p q (above_told cap p e))

pub told_right : (cap : ℕ) (p q : Least) → none ≡ at_most cap q → none ≡ at_most cap (plus p q)
told_right cap p q e = told_high cap (plus p q) (above_right cap p q (above_told cap q e))

-- a length is told where it is within the cap
pub told_within : (cap : ℕ) (r : Least) (o : Option ℕ) → as_least o ≡ at_most cap r → is_some o ≡ within r cap
unfolding at_most kept within
told_within cap none None e = refl
told_within cap none (Some a) e = impossible (sym e)
told_within cap (some a) o e = go (leb a cap) o e
  where
    go : (t : Bool) (o : Option ℕ) → as_least o ≡ kept t a → is_some o ≡ t
    go true None e' = impossible e'
    go true (Some b) e' = refl
    go false None e' = refl
    go false (Some b) e' = impossible (sym e')

-- a walk fits where its least length is told
pub told_fits : (G : Graph) (s t cap : ℕ) (closed : ℕ → Bool) (goals : List ℕ) (o : Option ℕ) → as_least o ≡ at_most cap (least G closed goals s t)
    → is_some o ≡ fits G s t cap closed goals
unfolding fits
told_fits G s t cap closed goals o e = told_within cap (least G closed goals s t) o e
