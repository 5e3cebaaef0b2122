use Rattle.varint.specs.Varint.{read_number}
use Rattle.numbers.proofs.SeveralLaws.{Going}
use Rattle.numbers.proofs.section.skip_numbers.Given as goal

abbrev pub invariant-loop-i : goal.invariant-loop-i
invariant-loop-i l = Going read_number l.count l.fn.bytes.rest.now l.i l.ahead.rest.now
