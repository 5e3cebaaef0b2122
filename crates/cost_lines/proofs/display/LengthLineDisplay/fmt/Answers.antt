-- `none`, or the number.
use Rattle.std.proofs.Output.{has_written_of_eq}
use Rattle.cost_lines.proofs.LengthLaws.{none_written, length_written}
use Rattle.cost_lines.proofs.display.LengthLineDisplay.fmt.Goals as goal

pub returns-in-None-clause-writes : goal.returns-in-None-clause-writes
returns-in-None-clause-writes g c p ok = has_written_of_eq _ _ _ _ _ (none_written c.args.self.now.0 c.in-None.is) (c.write_str.ensures.writes p ok)

pub returns-in-Some-clause-writes : goal.returns-in-Some-clause-writes
returns-in-Some-clause-writes g c p ok = has_written_of_eq _ _ _ _ _ (length_written c.args.self.now.0 c.in-Some.length c.in-Some.is) (c.write.ensures.writes p ok)
