-- What the invariant does not show of `sizes` by itself.
use native.Mathlib.Omega.{arith}
use Rattle.varint.proofs.SizeLaws.{more, within, done}
use Rattle.numbers.proofs.sizes.Goals as goal

pub overflow_add-total : goal.overflow_add-total
overflow_add-total c = omega (arith, within c.loop-x.invariant c.loop-x-test.true c.size_of-total.ensures)

pub loop-x-preserved : goal.loop-x-preserved
loop-x-preserved c = more c.loop-x.invariant c.loop-x-test.true c.size_of-total.ensures

pub returns : goal.returns
returns c = done c.loop-x.invariant c.loop-x-test.false
