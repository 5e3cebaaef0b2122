use Rattle.std.proofs.Common.{length}
use Rattle.numbers.proofs.SeveralLaws.{Storing}
use Rattle.numbers.proofs.section.read_all.Given as goal

abbrev pub invariant-loop-i : goal.invariant-loop-i
invariant-loop-i g l = Storing (g.K.Kind.reads l.kind) (length l.fn.out) l.fn.bytes.rest.now l.fn.out l.i l.ahead.rest.now l.out
