-- What the invariant does not show of `put_bytes` by itself.
use mathlib.Core.Path.{refl}
use native.Mathlib.Omega.{arith}
use Rattle.lists.proofs.RowLaws.{just_rows, begun, row_kept, row_store_within, row_store, row_done}
use Rattle.numbers.proofs.put_bytes.Goals as goal

pub loop-i-init : goal.loop-i-init
loop-i-init c = begun _ _ just_rows c.requires

pub bounds-out-i : goal.bounds-out-i
bounds-out-i c = omega (arith, row_kept c.loop-i.invariant, row_store_within c.loop-i.invariant c.loop-i-test.true refl)

pub loop-i-preserved : goal.loop-i-preserved
loop-i-preserved c = row_store c.loop-i.invariant c.loop-i-test.true refl

pub returns : goal.returns
returns c = (refl, (row_done c.loop-i.invariant c.loop-i-test.false).1)
