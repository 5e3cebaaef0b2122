-- Before the first line the slack alone is written.
use Rattle.std.proofs.Common.{rules, refl}
use Rattle.std.proofs.Output.{has_written_of_eq}
use Rattle.cost_lines.proofs.display.CostsDisplay.fmt.Goals as goal

pub loop-length-init : goal.loop-length-init
loop-length-init g c p = has_written_of_eq _ _ _ _ _ (search rules) (c.in_ok-write.ensures.writes p refl)
