-- `greedy_turn::Task::blocked` meets its contract: the two ways to the answer are those of TurnLaws: no entry that matters is another, or the table is asked.
-- Assumes nothing.
use Prim.Native.Nat.{◌+◌}
use mathlib.Core.Path.{refl, sym, ◌∙◌}
use native.Mathlib.Omega.{arith}
use Rattle.row_links.proofs.LinkLaws.{linked_shaped}
use Rattle.greedy_turn.proofs.TurnLaws.{set_proper, set_goals, set_fit, opening, judged_unmoved, judged_asked}
use Rattle.greedy_turn.proofs.Task.blocked.Goals as goal

pub open_item-kept-requires : goal.open_item-kept-requires
open_item-kept-requires c =
    let S = c.requires.0 in
    let I = c.requires.1 in
    let marks = c.args.marks.now in record {
      item_of_net = I.below;
      shaped_with_starts = (
        linked_shaped (set_proper S marks I.marked) I.links,
        set_fit S marks c.args.work.now I.marked (omega (arith, I.long)),
        omega (arith, S.counted, S.eight),
        I.long,
      );
    }

pub may_fit-requires : goal.may_fit-requires
may_fit-requires c =
    let t = c.open_item-kept in
    let S = c.requires.0 in
    let I = c.requires.1 in record {
      work_and_task_fit = (t.auto.work ∙ I.long, omega (arith, S.counted, S.eight), omega (arith, S.target, S.few));
      goals_entered = (
        S.eight,
        λ i h. omega (arith, I.entered i h, t.ensures.saves.beside (576 + i) (omega (arith, S.counted, S.eight)) (omega (arith, S.eight))),
      );
    }

pub stays_open-requires : goal.stays_open-requires
stays_open-requires c =
    let S = c.requires.0 in
    (set_goals S c.args.marks.now, c.open_item-kept.auto.work ∙ c.requires.1.long, S.target)

pub returns : goal.returns
returns c old e W B =
    let S = c.requires.0 in
    let I = c.requires.1 in
    let j = c.stays_open in
    judged_asked S (opening S old e I.marked I.below I.links.packed) W c.open_item-kept.ensures (sym S.counted) j.new.work j.result
    refl j.ensures.tells_whether_blocked j.ensures.goals_noted_if_open j.ensures.rows_back_if_not

pub returns-then-not-may_fit : goal.returns-then-not-may_fit
returns-then-not-may_fit c old e W B =
    let S = c.requires.0 in
    let I = c.requires.1 in
    let m = c.may_fit.ensures in
    judged_unmoved S (opening S old e I.marked I.below I.links.packed) W c.open_item-kept.ensures
    refl B (m.not_a_goal_if_false c.if-not-may_fit.true) (m.unmoved_if_false c.if-not-may_fit.true)
