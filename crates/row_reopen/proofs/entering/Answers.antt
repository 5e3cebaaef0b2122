-- What the invariant does not show of `entering` by itself.
use mathlib.Core.Logic.{inl, inr}
use Rattle.row_reopen.proofs.RowsOpened.{entering_begun, entering_more}
use Rattle.row_reopen.proofs.entering.Goals as goal
use Rattle.row_reopen.proofs.entering.Goals.{then-arcs-arc, else-arcs-arc}

pub loop-arc-init : goal.loop-arc-init
loop-arc-init c = entering_begun _ c.args.node c.requires.1

pub loop-arc-preserved : goal.loop-arc-preserved
loop-arc-preserved c =
    let l = c.loop-arc in
    entering_more l.arc c.args.arcs.now c.args.node l.active c.if-arcs-arc.active (c.requires.0 l.arc c.loop-arc-test.true).0 l.invariant
    (elim c.if-arcs-arc.branch [
      | then-arcs-arc w ↦ inl (w.if-arcs-arc.true, w.active-is)
      | else-arcs-arc w ↦ inr (w.if-arcs-arc.false, w.active-is)
    ])
