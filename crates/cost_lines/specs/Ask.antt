-- What the lines are made from.
use Rattle.std.specs.Prelude.{ℕ, List}
use Rattle.std.specs.declared.option.Option.{Option}
use Rattle.lengths.specs.Told.{as_least}
use Rattle.cost_rules.specs.Cost.{length_line}

abbrev pub line_of : Option ℕ → List ℕ
line_of o = length_line (as_least o)
