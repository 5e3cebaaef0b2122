-- What the invariants do not show of `put_row` by themselves.
use Rattle.std.proofs.Common.{arith}
use Rattle.lists.proofs.RowLaws.{begun, row_within, row_room, row_end, row_more, row_done}
use Rattle.text_lines.proofs.LineLaws.{spaced_rows}
use Rattle.text_lines.proofs.put_row.Goals as goal

pub loop-number-init : goal.loop-number-init
loop-number-init c = begun _ _ spaced_rows c.requires

pub slice_bounds-put_spaced-count : goal.slice_bounds-put_spaced-count
slice_bounds-put_spaced-count c = row_within c.loop-number.invariant

pub put_spaced-at-requires : goal.put_spaced-at-requires
put_spaced-at-requires c = row_room c.loop-number.invariant c.loop-number-test.true

pub overflow_add-at : goal.overflow_add-at
overflow_add-at c = omega (arith, row_end c.loop-number.invariant c.loop-number-test.true c.put_spaced-at.ensures)

pub loop-number-preserved : goal.loop-number-preserved
loop-number-preserved c = row_more c.loop-number.invariant c.loop-number-test.true c.put_spaced-at.ensures

pub returns : goal.returns
returns c = row_done c.loop-number.invariant (omega (arith, c.loop-number-test.false))
