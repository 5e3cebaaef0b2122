-- `row_save::row_moved` meets its contract: the entries at the target and where the goals below `goal` are entered are as kept. Assumes nothing.
use Prim.Native.Nat.{ℕ, ◌+◌, ◌<◌}
use lib.ListN.{get_or}
use Rattle.row_save.specs.Unmoved.{Stays}
use Rattle.row_save.proofs.row_moved.Given as goal

abbrev pub invariant-loop-goal : goal.invariant-loop-goal
invariant-loop-goal l = Stays l.work l.row l.to × ((k : ℕ) → k < l.goal → Stays l.work l.row (get_or l.work (576 + k) 0))
