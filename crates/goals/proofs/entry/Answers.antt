-- `goals::entry` meets its contract: a node is entered at itself, an arc at its tail. Assumes nothing.
use Rattle.goals.proofs.EndLaws.{entry_itself, entry_tail}
use Rattle.goals.proofs.entry.Goals as goal

pub returns-then-goal-nodes : goal.returns-then-goal-nodes
returns-then-goal-nodes c = entry_itself _ _ _ c.if-goal-nodes.true

pub returns : goal.returns
returns c = entry_tail _ _ _ c.requires.0 c.if-goal-nodes.false c.requires.1
