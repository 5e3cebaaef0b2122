-- `row_reopen::entering` meets its contract: the tails of the arcs before `arc` that enter the node are active. Assumes nothing.
use Rattle.row_reopen.specs.Openings.{Entering}
use Rattle.row_reopen.proofs.entering.Given as goal

abbrev pub invariant-loop-arc : goal.invariant-loop-arc
invariant-loop-arc l = Entering l.arc l.arcs l.node l.active
