-- `goal_table::reach` meets its contract. The loop's invariant: `rest` is the set without its goals below some k, and `best` stands for the least over those as the
-- last one; the law of the last goal does the rest. Assumes nothing.
use mathlib.Core.Path.{◌≡◌}
use mathlib.Core.List.{List}
use Prim.Native.Nat.{ℕ}
use Rattle.walks.specs.Lengths.{some}
use Rattle.rows.specs.Held.{held}
use Rattle.rows.specs.Net.{Net, graph, closed}
use Rattle.goal_table.proofs.RestLaws.{Rest}
use Rattle.goal_table.specs.Sets.{any_in}
use Rattle.goal_table.specs.Table.{SetAsked}
use Rattle.goal_table.proofs.reach.Given as goal

abbrev pub invariant-loop-i : goal.invariant-loop-i
invariant-loop-i l =
    (k : ℕ) × Rest l.set.bits k l.rest.bits
    × ((N : Net) (a : ℕ) (goals : List ℕ) → SetAsked N l.fn.cap a goals l.set.bits l.node l.work → held l.fn.cap (some l.best) ≡ held l.fn.cap (any_in (graph N) (closed N) a l.node goals l.set.bits k))

abbrev pub decreases-loop-i : goal.decreases-loop-i
decreases-loop-i l = l.rest.bits
