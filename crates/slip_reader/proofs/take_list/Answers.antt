-- As many numbers are read as the count says. Assumes nothing.
use mathlib.Core.Path.{sym}
use Rattle.varint.specs.Varint.{read_number}
use Rattle.numbers.proofs.SeveralLaws.{several_read}
use Rattle.slip_reader.proofs.take_list.Goals as goal

pub invariant_of-result : goal.invariant_of-result
invariant_of-result c = record { counted = (several_read read_number _ _ _ _ (sym c.in_ok-skip_numbers.ensures.got)).0 }
