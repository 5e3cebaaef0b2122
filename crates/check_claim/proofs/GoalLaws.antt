-- The kinds of the goals. Assumes nothing.
use mathlib.Core.Path.{◌≡◌}
use mathlib.Core.Bool.{Bool, true, false, ◌&&◌}

-- both tests, the second asked where the first holds
pub both : {a b v : Bool} → a ≡ true → v ≡ b → v ≡ (a && b)
both e q = rw e q

pub first_fails : {a v : Bool} (b : Bool) → a ≡ false → v ≡ false → v ≡ (a && b)
first_fails b e q = rw e q
