-- What the code has of a slip that it writes. No contract of an operation names it.
use Rattle.std.specs.Prelude.{ℕ, ◌<◌, ◌≡◌, true}
use Rattle.lists.specs.Lists.{member}
use Rattle.store_rules.specs.Shelf.{Nogood}

-- a slip that names items of some sheet alone
pub record Named (k : Nogood) : Type 0 where
  pub goals : (x : ℕ) → member x k.goals ≡ true → x < 576
  pub reasons : (x : ℕ) → member x k.reasons ≡ true → x < 576
