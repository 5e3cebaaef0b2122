-- `arcs_fault` judges arc by arc. The invariant: those that are left decide. Assumes nothing.
use Rattle.std.proofs.Common.{◌≡◌}
use Rattle.sheet.specs.Writer.{arcs_fault}
use Rattle.sheet_faults.proofs.arcs_fault.Given as goal

abbrev pub invariant-loop-arc : goal.invariant-loop-arc
invariant-loop-arc l = (l.arc-iterator.size ≡ 3) × (arcs_fault l.nodes l.arcs ≡ arcs_fault l.nodes l.arc-iterator.rest.now)
