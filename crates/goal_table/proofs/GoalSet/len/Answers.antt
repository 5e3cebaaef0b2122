-- `GoalSet::len` meets its contract: each one in a set's mark chooses a goal. Assumes nothing.
use mathlib.Core.Path.{sym}
use Rattle.goal_table.proofs.SetLaws.{chosen_count}
use Rattle.goal_table.proofs.GoalSet.len.Goals as goal

pub returns : goal.returns
returns c = λ goals h. sym (chosen_count goals c.args.self.bits h)
