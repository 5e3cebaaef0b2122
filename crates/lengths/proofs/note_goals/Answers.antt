-- What the invariant does not show of `note_goals` by itself.
use mathlib.Core.Path.{ap, ◌∙◌}
use Prim.Native.Nat.{◌+◌, ◌<◌}
use native.Mathlib.Omega.{arith}
use lib.ListN.{get_or, set, length-set}
use Rattle.rows.specs.Net.{Net, graph}
use Rattle.walks.specs.Goals.{entry_of}
use Rattle.goals.proofs.ToldLaws.{told_held}
use Rattle.lengths.proofs.PartLaws.{note_more, note_front, note_behind}
use Rattle.lengths.proofs.note_goals.Goals as goal

pub loop-i-preserved : goal.loop-i-preserved
loop-i-preserved c =
    let l = c.loop-i in
    let x = c.entry.result in
    let y = c.unwrap_or.result in
    let h : l.i < 8 = omega (arith, c.requires.0.eight, c.loop-i-test.true) in (
      length-set (set l.work (576 + l.i) x) (584 + l.i) y ∙ length-set l.work (576 + l.i) x ∙ l.invariant.0,
      note_more l.work l.i x y (rw l.invariant.0 c.requires.1) h (c.entry.ensures.0 ∙ ap (λ (N : Net). entry_of (graph N) (get_or c.args.goals.now l.i 0)) c.net.view_is) (c.unwrap_or.ensures ∙ told_held c.args.cap _ c.own.result c.own.ensures) l.invariant.1,
      note_front l.work l.i x y ∙ l.invariant.2,
      note_behind l.work l.i x y h ∙ l.invariant.3,
    )
