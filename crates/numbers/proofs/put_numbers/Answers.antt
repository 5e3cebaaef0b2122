-- What the invariant and the laws of rows do not show of `put_numbers` by themselves.
use Rattle.lists.proofs.RowLaws.{row_more}
use Rattle.numbers.proofs.put_numbers.Goals as goal

pub loop-x-preserved : goal.loop-x-preserved
loop-x-preserved c = row_more c.loop-x.invariant c.loop-x-test.true c.put_number-at.ensures
