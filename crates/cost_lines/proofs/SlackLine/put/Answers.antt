-- `none`, or the difference.
use Rattle.std.proofs.Common.{ap, length, arith}
use Rattle.cost_lines.proofs.LengthLaws.{no_slack_written, slack_written}
use Rattle.cost_lines.proofs.SlackLine.put.Goals as goal

pub put-requires : goal.put-requires
put-requires c = omega (arith, c.requires, ap length (no_slack_written c.args.self.now.limit c.args.self.now.length c.in-None.is))

pub put-requires-in-Some : goal.put-requires-in-Some
put-requires-in-Some c = omega (arith, c.requires, ap length (slack_written c.args.self.now.limit c.args.self.now.length c.in-Some.length c.in-Some.is))

pub returns-in-None : goal.returns-in-None
returns-in-None c = rw (← no_slack_written c.args.self.now.limit c.args.self.now.length c.in-None.is) c.put.ensures

pub returns-in-Some : goal.returns-in-Some
returns-in-Some c = rw (← slack_written c.args.self.now.limit c.args.self.now.length c.in-Some.length c.in-Some.is) c.put-in-Some.ensures
