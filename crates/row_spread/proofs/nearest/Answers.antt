-- What the invariant does not show of `nearest` by itself: the lowest node of the rest is taken off, and kept where its entry is less.
use native.Mathlib.Omega.{arith}
use Rattle.row_spread.proofs.NearestLaws.{seen_begun, seen_less, seen_same}
use Rattle.row_spread.proofs.nearest.Goals as goal
use Rattle.row_spread.proofs.nearest.Goals.{then-row-node, else-row-node}

pub loop-node-init : goal.loop-node-init
loop-node-init c = seen_begun c.args.row.now c.args.active c.requires.1 (omega arith)

pub loop-node-preserved : goal.loop-node-preserved
loop-node-preserved c =
    let l = c.loop-node in
    let f = c.in-Some.ensures.some in
    let row = c.args.row.now in
    elim c.if-row-node.branch [
      | then-row-node w ↦ rw (w.best-is, f.2) (seen_less row f.0 (omega arith) l.invariant (rw f.2 at w.if-row-node.true))
      | else-row-node w ↦ rw w.best-is (seen_same row f.0 (omega arith) l.invariant (rw f.2 at w.if-row-node.false))
    ]
