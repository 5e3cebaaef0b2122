-- `goals::exit` meets its contract: a node is left at itself, an arc at its head. Assumes nothing.
use Rattle.goals.proofs.EndLaws.{exit_itself, exit_head}
use Rattle.goals.proofs.exit.Goals as goal

pub returns-then-goal-nodes : goal.returns-then-goal-nodes
returns-then-goal-nodes c = exit_itself _ _ _ c.if-goal-nodes.true

pub returns : goal.returns
returns c = exit_head _ _ _ c.requires.0 c.if-goal-nodes.false c.requires.1
