-- `marks_of` goes from mark to mark. The invariant: those before i are stored. Assumes nothing.
use Rattle.std.proofs.Common.{◌≡◌, take}
use Rattle.sheet_faults.proofs.marks_of.Given as goal

abbrev pub invariant-loop-i : goal.invariant-loop-i
invariant-loop-i l = take l.i l.marks ≡ take l.i l.bytes
