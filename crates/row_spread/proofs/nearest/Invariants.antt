-- `row_spread::nearest` meets its contract. The loop's invariant: `best` has the least entry of the active nodes that are not in `rest`, which loses its
-- lowest node each time. Assumes nothing.
use Rattle.row_spread.proofs.NearestLaws.{Seen}
use Rattle.row_spread.proofs.nearest.Given as goal

abbrev pub invariant-loop-node : goal.invariant-loop-node
invariant-loop-node l = Seen l.row l.active l.best l.rest

abbrev pub decreases-loop-node : goal.decreases-loop-node
decreases-loop-node l = l.rest
