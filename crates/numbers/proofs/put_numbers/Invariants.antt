-- `put_numbers` writes what `write_numbers` writes. The invariant (`Row`): the bytes of the first j numbers stand in front. Assumes nothing.
use Rattle.lists.proofs.RowLaws.{Row}
use Rattle.varint.specs.Varint.{write_number, write_numbers}
use Rattle.numbers.proofs.put_numbers.Given as goal

abbrev pub invariant-loop-x : goal.invariant-loop-x
invariant-loop-x l = Row write_number write_numbers l.numbers l.initial.out l.out l.at l.x-index
