-- `leave` zeroes from the front on. Assumes nothing.
use Rattle.std.proofs.Common.{◌≡◌, ◌++◌, replicate, drop}
use Rattle.work.proofs.leave.Given as goal

abbrev pub invariant-loop-i : goal.invariant-loop-i
invariant-loop-i g l = (l.work ≡ replicate l.i g.T.Cell.ZERO ++ drop l.i l.fn.work) × (l.i-end ≡ g.T.Cell.ASKED)
