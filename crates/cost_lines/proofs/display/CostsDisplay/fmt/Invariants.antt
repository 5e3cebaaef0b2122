-- What is written before each line: the slack, and the lines before it.
use Rattle.std.proofs.Common.{◌++◌, take}
use Rattle.std.specs.Fmt.{HasWritten, IsPlainFormatter}
use Rattle.std.specs.List.{flat_map}
use Rattle.cost_rules.specs.Cost.{slack_line}
use Rattle.lengths.specs.Told.{as_least}
use Rattle.cost_lines.specs.Ask.{line_of}
use Rattle.cost_lines.proofs.display.CostsDisplay.fmt.Given as goal

abbrev pub invariant-loop-length : goal.invariant-loop-length
invariant-loop-length g l =
    IsPlainFormatter l.fn.f → HasWritten g.W.Write.write_str_gives l.fn.f (slack_line l.self.slack.limit (as_least l.self.slack.length) ++ flat_map line_of (take l.length-index l.self.opened.items)) l.f
