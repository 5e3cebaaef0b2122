-- What the code tells of a least length.
use Rattle.std.specs.Prelude.{ℕ}
use Rattle.std.specs.declared.option.Option.{Option}
use Rattle.std.specs.declared.option.Option.TheVariants.{None, Some}
use Rattle.walks.specs.Lengths.{Least, none, some}

-- a length of the code as one of walks
abbrev pub as_least : Option ℕ → Least
as_least None = none
as_least (Some a) = some a
