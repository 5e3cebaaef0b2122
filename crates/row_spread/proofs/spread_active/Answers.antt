-- What the invariant does not show of `spread_active` by itself: each turn makes the measure less.
use Rattle.row_spread.proofs.SpreadLaws.{turn_less}
use Rattle.row_spread.proofs.spread_active.Goals as goal

pub loop-left-smaller : goal.loop-left-smaller
loop-left-smaller c =
    let n = c.nearest-node in
    turn_less n.result c.loop-left.left c.spread_node-left.result n.ensures.node n.ensures.member c.spread_node-left.ensures.active_or_total_falls
