-- The arcs of a graph that are open and have an open head, in their order.
use Rattle.std.specs.Prelude.{ℕ, zero, suc, ◌+◌, List, [], ◌∷◌, ◌++◌}
use Rattle.lists.specs.Lists.{pick}
use Rattle.walks.specs.declared.arc.Arc.{Arc}
use Rattle.rows.specs.Net.{Net, closed, count, arc_at, head_at}

-- arc i; none where it or its head is closed
unfoldable pub open_arc : Net → ℕ → List Arc
open_arc N i = pick (closed N (N.nodes + i)) [] (pick (closed N (head_at N i)) [] (arc_at N i ∷ []))

-- those of the first n arcs
unfoldable pub open_to : Net → ℕ → List Arc
open_to N zero = []
open_to N (suc n) = open_to N n ++ open_arc N n

-- those of all arcs
abbrev pub open_arcs : Net → List Arc
open_arcs N = open_to N (count N)
