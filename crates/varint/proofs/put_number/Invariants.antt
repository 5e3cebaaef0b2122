-- `put_number` writes what `write_number` writes. The invariant (`Writing`): the groups so far stand in front, and those of `rest` follow. Assumes nothing.
use Rattle.varint.proofs.WriteLaws.{Writing}
use Rattle.varint.proofs.put_number.Given as goal

abbrev pub invariant-loop-rest : goal.invariant-loop-rest
invariant-loop-rest l = Writing l.x l.initial.out l.out l.rest l.i

abbrev pub decreases-loop-rest : goal.decreases-loop-rest
decreases-loop-rest l = l.rest
