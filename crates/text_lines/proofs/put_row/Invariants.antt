-- `put_row` writes what `row` writes. The invariant (`Row`): the numbers so far, each behind a space, stand in front.
use Rattle.lists.proofs.RowLaws.{Row}
use Rattle.text_lines.specs.Lines.{spaced, row}
use Rattle.text_lines.proofs.put_row.Given as goal

abbrev pub invariant-loop-number : goal.invariant-loop-number
invariant-loop-number l = Row spaced row l.numbers l.fn.out l.out l.at l.number-index
