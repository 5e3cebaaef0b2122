-- `lengths::fill_set` meets its contract. The loop's invariant: `rest` is the set without its goals below some k, and the entries of those are filled. Assumes nothing.
use mathlib.Core.Path.{◌≡◌}
use mathlib.Core.List.{List}
use Prim.Native.Nat.{ℕ, ◌^◌, ◌<◌}
use lib.ListN.{length}
use Rattle.rows.specs.Net.{Net}
use Rattle.goal_table.proofs.RestLaws.{Rest}
use Rattle.goal_table.specs.Table.{Filled, FilledTo, TableOnly}
use Rattle.lengths.proofs.fill_set.Given as goal

abbrev pub invariant-loop-i : goal.invariant-loop-i
invariant-loop-i l =
    (length l.work ≡ length l.initial.work) × TableOnly l.initial.work l.work × (k : ℕ) × Rest l.set.bits k l.rest.bits
    × ((N : Net) (a : ℕ) (goals : List ℕ) → l.set.bits < 2 ^ length goals → Filled N l.cap a goals l.set.bits l.initial.work → FilledTo N l.cap a goals l.set.bits k l.work)

abbrev pub decreases-loop-i : goal.decreases-loop-i
decreases-loop-i l = l.rest.bits
