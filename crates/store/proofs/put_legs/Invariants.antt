-- `put_legs` goes from arc to arc. The invariant: those before i are stored. Assumes nothing.
use Rattle.std.proofs.Common.{◌≡◌, take}
use Rattle.lists.specs.Lists.{front}
use Rattle.walks.specs.Flat.{flat}
use Rattle.store.proofs.put_legs.Given as goal

abbrev pub invariant-loop-i : goal.invariant-loop-i
invariant-loop-i l = l.legs ≡ front (flat (take l.i l.arcs)) l.initial.legs
