-- `row_spread::spread_node` meets its contract. The loop's invariant: the node's arcs from number `link` on are tried, and with no cut the active nodes are
-- as before without the node. Assumes nothing.
use Prim.Native.Nat.{ℕ, ◌-◌, ◌≤◌, ◌<◌}
use mathlib.Core.Path.{◌≡◌}
use Rattle.rows.specs.Net.{arc_count, tail_in}
use Rattle.rows.specs.Rows.{Keeps, AwaySame}
use Rattle.row_spread.specs.Active.{Still, Tries}
use Rattle.row_spread.proofs.SpreadLaws.{Waiting}
use Rattle.row_spread.proofs.spread_node.Given as goal

abbrev pub invariant-loop-link : goal.invariant-loop-link
invariant-loop-link l =
    (l.link ≤ arc_count l.arcs) × Keeps l.cap l.arcs l.initial.row l.row × (0 < l.link → tail_in l.arcs (l.link - 1) ≡ l.node)
    × (Still l.cap l.arcs l.active l.initial.row → Waiting l.cap l.arcs l.left l.node l.link l.row) × Tries l.initial.row (l.left ≡ l.initial.left) l.row
    × ((s : ℕ) → AwaySame l.arcs s l.initial.row l.row)

abbrev pub decreases-loop-link : goal.decreases-loop-link
decreases-loop-link l = l.link
