-- `Store::remove_subsumed` meets its contract. The invariant (`Moved`): of the first i slots those that stay stand in front. Assumes nothing.
use Prim.Native.Nat.{◌≤◌}
use mathlib.Core.Bool.{not}
use Rattle.store_rules.specs.Shelf.{subsumes}
use Rattle.store_slot.specs.Slot.{shown}
use Rattle.lists.proofs.MovedLaws.{Moved}
use Rattle.store.proofs.HeldLaws.{Counted}
use Rattle.store.proofs.Store.remove_subsumed.Given as goal

abbrev pub invariant-loop-i : goal.invariant-loop-i
invariant-loop-i l = Counted l.fn.self l.count × (l.i ≤ l.count) × Moved (λ k. not (subsumes (shown l.slot) (shown k))) l.fn.self.slots l.self.slots l.i l.left
