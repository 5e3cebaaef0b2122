-- `sizes` counts what `write_numbers` writes. The invariant (`Measuring`): what was counted and what the numbers from j on take are the whole. Assumes
-- nothing.
use Rattle.varint.proofs.SizeLaws.{Measuring}
use Rattle.numbers.proofs.sizes.Given as goal

abbrev pub invariant-loop-x : goal.invariant-loop-x
invariant-loop-x l = Measuring l.numbers l.total l.x-index
