-- The text of what closures cost.
use Rattle.std.specs.Prelude.{ℕ, List, ◌++◌}
use Rattle.std.specs.List.{flat_map}
use Rattle.cost_rules.specs.Cost.{slack_line}
use Rattle.cost_lines.specs.declared.Costs.{Costs}
use Rattle.lengths.specs.Told.{as_least}
use Rattle.cost_lines.specs.Ask.{line_of}

abbrev pub costs_text : {N : ℕ} → Costs N → List ℕ
costs_text c = slack_line c.slack.limit (as_least c.slack.length) ++ flat_map line_of c.opened.items
