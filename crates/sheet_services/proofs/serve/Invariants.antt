-- `serve` goes through the arcs. The invariant (`Serving`): the first l of them have their weights, the others their minutes. Assumes nothing.
use Rattle.sheet_services.proofs.ServeLaws.{Serving}
use Rattle.sheet_services.proofs.serve.Given as goal

abbrev pub invariant-loop-l : goal.invariant-loop-l
invariant-loop-l l = Serving l.services l.initial.arcs l.l l.arcs
