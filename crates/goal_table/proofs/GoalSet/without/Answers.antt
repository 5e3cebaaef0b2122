-- `GoalSet::without` meets its contract: a goal of a set below 256 is one of eight, and its bit is in the number. Assumes nothing.
use native.Mathlib.Omega.{arith}
use Rattle.goal_table.proofs.SetLaws.{has_le, has_below}
use Rattle.goal_table.proofs.TableLaws.{shifted}
use Rattle.goal_table.proofs.GoalSet.without.Goals as goal

pub overflow_cast-result : goal.overflow_cast-result
overflow_cast-result c = omega (arith, has_below c.args.self.bits c.args.i 8 c.requires.0 c.requires.1)

pub overflow_shl-result : goal.overflow_shl-result
overflow_shl-result c = omega (arith, has_below c.args.self.bits c.args.i 8 c.requires.0 c.requires.1)

pub overflow_sub-result : goal.overflow_sub-result
overflow_sub-result c =
    let i = has_below c.args.self.bits c.args.i 8 c.requires.0 c.requires.1 in
    rw (shifted c.args.i (omega (arith, i))) (has_le c.args.self.bits c.args.i c.requires.1)

pub returns : goal.returns
returns c =
    let i = has_below c.args.self.bits c.args.i 8 c.requires.0 c.requires.1 in
    (omega (arith, shifted c.args.i (omega (arith, i))), i)
