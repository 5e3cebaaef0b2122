-- `row_fill::turn` meets its contract. The loop's invariant: the arcs below `arc` are exchanged. Assumes nothing.
use mathlib.Core.Path.{◌≡◌}
use lib.ListN.{length}
use Rattle.row_spread.specs.Arcs.{TurnedTo}
use Rattle.row_fill.proofs.turn.Given as goal

abbrev pub invariant-loop-arc : goal.invariant-loop-arc
invariant-loop-arc l = (length l.back ≡ 512) × TurnedTo l.arc l.arcs l.back
