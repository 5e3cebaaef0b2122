-- `forced_nodes` marks the ends of the mandatory arcs, and then source and target. The invariant: `Ending`. Assumes nothing.
use Rattle.sheet_required.proofs.RequiredLaws.{Ending}
use Rattle.sheet_required.proofs.forced_nodes.Given as goal

abbrev pub invariant-loop-j : goal.invariant-loop-j
invariant-loop-j g l = Ending l.header (g.L.ArcList.arcs l.arcs) l.marks l.j l.forced
