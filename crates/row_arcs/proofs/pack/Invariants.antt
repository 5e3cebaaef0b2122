-- `row_arcs::pack` meets its contract. The loop's invariant: the open ones of the arcs below `arc` are packed. Assumes nothing.
use Prim.Native.Nat.{◌≤◌}
use Rattle.lists.specs.Lists.{Put}
use Rattle.row_arcs.specs.OpenArcs.{open_to}
use Rattle.row_arcs.proofs.pack.Given as goal

abbrev pub invariant-loop-arc : goal.invariant-loop-arc
invariant-loop-arc l = (l.count ≤ l.arc) × Put (open_to l.net l.arc) l.initial.packed l.packed l.count
