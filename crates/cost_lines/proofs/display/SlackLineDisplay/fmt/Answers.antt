-- `none`, or the difference.
use Rattle.std.proofs.Output.{has_written_of_eq}
use Rattle.cost_lines.proofs.LengthLaws.{no_slack_written, slack_written}
use Rattle.cost_lines.proofs.display.SlackLineDisplay.fmt.Goals as goal

pub returns-in-None-clause-writes : goal.returns-in-None-clause-writes
returns-in-None-clause-writes g c p ok = has_written_of_eq _ _ _ _ _ (no_slack_written c.args.self.now.limit c.args.self.now.length c.in-None.is) (c.write.ensures.writes p ok)

pub returns-in-Some-clause-writes : goal.returns-in-Some-clause-writes
returns-in-Some-clause-writes g c p ok = has_written_of_eq _ _ _ _ _ (slack_written c.args.self.now.limit c.args.self.now.length c.in-Some.length c.in-Some.is) (c.write-in-Some.ensures.writes p ok)
