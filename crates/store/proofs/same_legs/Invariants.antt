-- `same_legs` goes from arc to arc. The invariant: those before i are the list's. Assumes nothing.
use Rattle.std.proofs.Common.{◌≡◌, ◌*◌, length, take}
use Rattle.walks.specs.Flat.{arcs_of}
use Rattle.store.proofs.same_legs.Given as goal

abbrev pub invariant-loop-i : goal.invariant-loop-i
invariant-loop-i l = (length l.legs ≡ 3 * length l.arcs) × (take l.i l.arcs ≡ take l.i (arcs_of l.legs))
