-- Before the first number the word alone is written.
use Rattle.std.proofs.Common.{rules, refl}
use Rattle.std.proofs.Output.{has_written_of_eq}
use Rattle.text_lines.proofs.display.LineDisplay.fmt.Goals as goal

pub loop-number-init : goal.loop-number-init
loop-number-init g c p = has_written_of_eq _ _ _ _ _ (search rules) (c.in_ok-write_str.ensures.writes p refl)
