-- `none`, or the number.
use Rattle.std.proofs.Common.{ap, length, arith}
use Rattle.cost_lines.proofs.LengthLaws.{none_written, length_written}
use Rattle.cost_lines.proofs.LengthLine.put.Goals as goal

pub put-requires : goal.put-requires
put-requires c = omega (arith, c.requires, ap length (none_written c.args.self.now.0 c.in-None.is))

pub put-requires-in-Some : goal.put-requires-in-Some
put-requires-in-Some c = omega (arith, c.requires, ap length (length_written c.args.self.now.0 c.in-Some.length c.in-Some.is))

pub returns-in-None : goal.returns-in-None
returns-in-None c = rw (← none_written c.args.self.now.0 c.in-None.is) c.put.ensures

pub returns-in-Some : goal.returns-in-Some
returns-in-Some c = rw (← length_written c.args.self.now.0 c.in-Some.length c.in-Some.is) c.put-in-Some.ensures
