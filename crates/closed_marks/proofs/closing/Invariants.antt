-- `closed_marks::closing` meets its contract. The invariant: what stands before the turn's item is closed. Assumes nothing.
use Rattle.closed_marks.proofs.ClosingLaws.{ClosingFrom}
use Rattle.closed_marks.proofs.closing.Given as goal

abbrev pub invariant-loop-item : goal.invariant-loop-item
invariant-loop-item l = ClosingFrom l.list l.marks l.item-index
