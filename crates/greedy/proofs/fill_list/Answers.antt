-- What the invariant does not show of `fill_list` by itself.
use mathlib.Core.Path.{refl}
use native.Mathlib.Omega.{arith}
use lib.ListN.{length-set}
use Rattle.greedy.proofs.ListedLaws.{going_begun, going_passed, going_listed, going_done}
use Rattle.greedy.proofs.fill_list.Goals.{then-take_turn, else-take_turn}
use Rattle.greedy.proofs.fill_list.Goals as goal

pub loop-item-init : goal.loop-item-init
loop-item-init c = (refl, going_begun c.args.list.now c.requires.0 c.requires.1)

pub take_turn-requires : goal.take_turn-requires
take_turn-requires c = record { setting_holds = (c.loop-item.invariant.1.setting, c.loop-item-test.true); state_before = c.loop-item.invariant.1.state }

pub loop-item-preserved : goal.loop-item-preserved
loop-item-preserved c =
    let I = c.loop-item.invariant in
    let h = c.loop-item-test.true in
    let t = c.take_turn.ensures in
    elim c.if-take_turn.branch [
      | then-take_turn w ↦
          rw (w.list-is, w.listed-is)
          (simp length-set I.0, going_listed I.1 h c.requires.2 (rw w.if-take_turn.true at t.item_turned) t.state_after)
      | else-take_turn w ↦ rw (w.list-is, w.listed-is) (I.0, going_passed I.1 h (rw w.if-take_turn.false at t.item_turned) t.state_after)
    ]

pub returns : goal.returns
returns c = going_done c.loop-item.invariant.1 (omega arith)
