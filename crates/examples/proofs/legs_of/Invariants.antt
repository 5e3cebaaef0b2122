-- `legs_of` writes into an array of 1536 numbers. Assumes nothing.
use Rattle.std.proofs.Common.{◌≡◌, length}
use Rattle.examples.proofs.legs_of.Given as goal

abbrev pub invariant-loop-i : goal.invariant-loop-i
invariant-loop-i l = length l.legs ≡ 1536
