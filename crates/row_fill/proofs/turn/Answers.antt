-- What the invariant does not show of `turn` by itself: one arc more is exchanged.
use mathlib.Core.Path.{refl, ◌∙◌}
use native.Mathlib.Omega.{arith}
use lib.ListN.{length-set}
use Rattle.row_fill.proofs.TurnLaws.{turn_more}
use Rattle.row_fill.proofs.turn.Goals as goal

pub loop-arc-preserved : goal.loop-arc-preserved
loop-arc-preserved c =
    let l = c.loop-arc in (
      length-set l.back l.arc _ ∙ l.invariant.0,
      turn_more c.args.arcs.now l.back l.arc _ (omega (arith, l.invariant.0, c.requires)) refl refl refl l.invariant.1,
    )
