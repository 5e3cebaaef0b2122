-- `greedy::fill_list` meets its contract: what is listed so far, put before the greedy list of the rest, is the whole. Assumes nothing.
use mathlib.Core.Path.{◌≡◌}
use lib.ListN.{length}
use Rattle.greedy_turn.specs.Turns.{task_is}
use Rattle.greedy.proofs.ListedLaws.{Going}
use Rattle.greedy.proofs.fill_list.Given as goal

abbrev pub invariant-loop-item : goal.invariant-loop-item
invariant-loop-item l =
    (length l.list ≡ length l.fn.list)
    × Going (task_is l.task) l.fn.marks l.fn.list l.item l.marks l.list l.listed l.links.arcs l.links.chains l.links.count l.work
