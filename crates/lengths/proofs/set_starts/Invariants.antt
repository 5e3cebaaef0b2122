-- `lengths::set_starts` meets its contract. The loop's invariant: the starts of the goals below `i` are written. Assumes nothing.
use mathlib.Core.Path.{◌≡◌}
use lib.ListN.{length}
use Rattle.walks.specs.Flat.{graph_of}
use Rattle.goal_table.specs.Table.{StartsTo}
use Rattle.lengths.proofs.set_starts.Given as goal

abbrev pub invariant-loop-i : goal.invariant-loop-i
invariant-loop-i l = (length l.starts ≡ length l.initial.starts) × StartsTo (graph_of l.nodes l.arcs) l.from l.goals l.i l.starts
