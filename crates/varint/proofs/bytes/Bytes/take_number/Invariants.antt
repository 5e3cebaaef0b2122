use Rattle.std.proofs.Common.{◌≡◌}
use Rattle.varint.proofs.TakeLaws.{Taking}
use Rattle.varint.proofs.bytes.Bytes.take_number.Given as goal

abbrev pub invariant-loop-i : goal.invariant-loop-i
invariant-loop-i l = record { taking : Taking l.fn.self.rest.now l.i l.rest l.scale l.sum; kept : l.self.rest.now ≡ l.fn.self.rest.now }
