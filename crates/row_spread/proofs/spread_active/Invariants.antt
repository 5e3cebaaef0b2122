-- `row_spread::spread_active` meets its contract. The loop's invariant: an arc whose tail is not active can cut no entry. The measure is the sum of the
-- row's entries, 65 times, and how many nodes are active: a turn that cuts no entry takes one off. Assumes nothing.
use Prim.Native.Nat.{ℕ, ◌+◌, ◌*◌}
use Rattle.rows.specs.Rows.{total, Keeps, AwaySame}
use Rattle.row_spread.specs.Active.{Still}
use Rattle.rows.proofs.BitLaws.{card}
use Rattle.row_spread.proofs.spread_active.Given as goal

abbrev pub invariant-loop-left : goal.invariant-loop-left
invariant-loop-left l =
    Keeps l.cap l.arcs l.initial.row l.row × (Still l.cap l.arcs l.active l.initial.row → Still l.cap l.arcs l.left l.row)
    × ((s : ℕ) → AwaySame l.arcs s l.initial.row l.row)

abbrev pub decreases-loop-left : goal.decreases-loop-left
decreases-loop-left l = total l.row * 65 + card l.left 64
