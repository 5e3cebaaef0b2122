-- What the invariant does not show of `write_front` by itself.
use mathlib.Core.Path.{refl}
use native.Mathlib.Omega.{arith}
use Rattle.lists.proofs.RowLaws.{just_rows, begun, row_kept, row_store, row_done}
use Rattle.store.proofs.write_front.Goals as goal

pub loop-i-init : goal.loop-i-init
loop-i-init c = begun _ _ just_rows c.requires

pub bounds-kept-i : goal.bounds-kept-i
bounds-kept-i c = omega (arith, row_kept c.loop-i.invariant)

pub loop-i-preserved : goal.loop-i-preserved
loop-i-preserved c = row_store c.loop-i.invariant c.loop-i-test.true refl

pub returns : goal.returns
returns c = (row_done c.loop-i.invariant c.loop-i-test.false).1
