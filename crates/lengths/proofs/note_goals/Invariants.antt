-- `lengths::note_goals` meets its contract. The loop's invariant: the goals below `i` are noted, and the work beside the notes is as it was. Assumes nothing.
use mathlib.Core.Path.{◌≡◌}
use lib.ListN.{length, take, drop}
use Rattle.goal_table.specs.Table.{NotedTo}
use Rattle.lengths.proofs.note_goals.Given as goal

abbrev pub invariant-loop-i : goal.invariant-loop-i
invariant-loop-i l =
    (length l.work ≡ length l.initial.work) × NotedTo l.net l.cap l.goals l.i l.work × (take 576 l.work ≡ take 576 l.initial.work) × (drop 592 l.work ≡ drop 592 l.initial.work)
