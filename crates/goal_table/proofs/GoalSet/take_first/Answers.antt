-- `GoalSet::take_first` meets its contract: the lowest bit that is 1 is the first goal. Assumes nothing.
use native.Mathlib.Omega.{arith}
use Rattle.goal_table.proofs.RestLaws.{first_off}
use Rattle.goal_table.proofs.GoalSet.take_first.Goals as goal

pub returns-clause-taken : goal.returns-clause-taken
returns-clause-taken c = first_off c.args.self.now.bits (omega (arith, c.if-self-eq0.false)) (omega arith)
