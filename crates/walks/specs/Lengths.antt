-- Lengths: a number of minutes, or none where there is no walk.
use Rattle.std.specs.Prelude.{ℕ, ◌+◌, min, Bool, false, leb}

-- `none` is more than every number ("a missing way exceeds every limit")
pub data Least : Type 0 where
  none : Least
  some : ℕ → Least

unfoldable pub lesser : Least → Least → Least
lesser none b = b
lesser (some a) none = some a
lesser (some a) (some b) = some (min a b)

-- the sum, missing where one is
unfoldable pub plus : Least → Least → Least
plus none y = none
plus (some a) none = none
plus (some a) (some b) = some (a + b)

-- at most k
unfoldable pub within : Least → ℕ → Bool
within none k = false
within (some a) k = leb a k
