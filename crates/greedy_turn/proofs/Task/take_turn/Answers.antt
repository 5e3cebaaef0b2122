-- `greedy_turn::Task::take_turn` meets its contract: an open item is passed, a closed one is opened, and where a walk fits then the marks, the arcs and the
-- rows are as before. Assumes nothing.
use mathlib.Core.Path.{◌≡◌, refl, ◌∙◌}
use mathlib.Core.Bool.{true}
use native.Mathlib.Omega.{arith}
use lib.ListN.{length-set}
use Rattle.walks.specs.Graph.{closed_in}
use Rattle.row_links.proofs.LinkLaws.{linked_shaped, item_linked}
use Rattle.greedy_turn.proofs.TurnLaws.{mark_read, set_proper, set_goals, in_turn, closed_again}
use Rattle.greedy_turn.proofs.TurnLaws.{turn_passed, turn_opened, turn_listed, state_opened, state_listed}
use Rattle.greedy_turn.proofs.Task.take_turn.Goals as goal

pub returns-then-not-is_forbidden : goal.returns-then-not-is_forbidden
returns-then-not-is_forbidden c =
    let A = c.requires.state_before in
    record {
      item_turned = turn_passed (
          mark_read c.args.marks.now c.args.item _ c.index-marks-item.is c.is_forbidden.ensures (omega (arith, A.marked, c.requires.setting_holds.1))
          ∙ c.if-not-is_forbidden.true
          );
      state_after = A;
    }

pub invariant_of-opened : goal.invariant_of-opened
invariant_of-opened c =
    let S = c.requires.setting_holds.0 in
    set_proper S _ (simp length-set c.requires.state_before.marked)

pub open-requires : goal.open-requires
open-requires c = record { few_arcs_and_item = (c.requires.setting_holds.0.short, c.requires.setting_holds.1) }

pub blocked-requires : goal.blocked-requires
blocked-requires c =
    let S = c.requires.setting_holds.0 in
    let A = c.requires.state_before in
    let p = set_proper S _ (simp length-set A.marked) in
    let o = item_linked p S.short c.requires.setting_holds.1 A.links.long c.open.ensures in
    (S, in_turn S A c.args.item c.requires.setting_holds.1 (o.opened c.args.marks.now refl A.links))

pub returns-then-blocked : goal.returns-then-blocked
returns-then-blocked c =
    let S = c.requires.setting_holds.0 in
    let A = c.requires.state_before in
    let b = c.blocked in
    let o = item_linked (set_proper S _ (simp length-set A.marked)) S.short c.requires.setting_holds.1 A.links.long c.open.ensures in
    let p : closed_in c.args.marks.now c.args.item ≡ true =
    mark_read c.args.marks.now c.args.item _ c.index-marks-item.is c.is_forbidden.ensures (omega (arith, A.marked, c.requires.setting_holds.1))
    ∙ c.if-not-is_forbidden.false in
    let J = rw c.if-blocked.true at (b.ensures c.args.marks.now refl A.ready A.blocked) in
    record {
      item_turned = turn_opened p J;
      state_after = state_opened S A c.args.item b.auto.work (o.opened c.args.marks.now refl A.links) J;
    }

pub bounds-marks-item-3 : goal.bounds-marks-item-3
bounds-marks-item-3 c = simp length-set (omega (arith, c.requires.state_before.marked, c.requires.setting_holds.1))

pub invariant_of-closed : goal.invariant_of-closed
invariant_of-closed c =
    let S = c.requires.setting_holds.0 in
    set_proper S _ (simp length-set c.requires.state_before.marked)

pub note_goals-requires : goal.note_goals-requires
note_goals-requires c =
    let S = c.requires.setting_holds.0 in
    (set_goals S _, omega (arith, c.requires.state_before.long, c.blocked.auto.work))

pub link_closed-requires : goal.link_closed-requires
link_closed-requires c =
    let S = c.requires.setting_holds.0 in
    let A = c.requires.state_before in
    let p : closed_in c.args.marks.now c.args.item ≡ true =
    mark_read c.args.marks.now c.args.item _ c.index-marks-item.is c.is_forbidden.ensures (omega (arith, A.marked, c.requires.setting_holds.1))
    ∙ c.if-not-is_forbidden.false in
    let q = set_proper S _ (simp length-set A.marked) in
    let o = item_linked q S.short c.requires.setting_holds.1 A.links.long c.open.ensures in record {
      few_arcs = S.short;
      shaped = (linked_shaped q (o.opened c.args.marks.now refl A.links), A.links.room);
      linked_but_for_last = λ a b. rw (closed_again c.args.marks.now c.args.item p) (o.again c.args.marks.now refl A.links a b);
    }

pub returns : goal.returns
returns c =
    let S = c.requires.setting_holds.0 in
    let A = c.requires.state_before in
    let b = c.blocked in
    let g = c.note_goals in
    let p : closed_in c.args.marks.now c.args.item ≡ true =
    mark_read c.args.marks.now c.args.item _ c.index-marks-item.is c.is_forbidden.ensures (omega (arith, A.marked, c.requires.setting_holds.1))
    ∙ c.if-not-is_forbidden.false in
    let J = rw c.if-blocked.false at (b.ensures c.args.marks.now refl A.ready A.blocked) in record {
      item_turned = turn_listed p J;
      state_after = state_listed S A c.args.item p (g.auto.work ∙ b.auto.work) c.link_closed.ensures J (rw c.length.ensures.0 at g.ensures.noted)
          g.ensures.only_notes_written.0;
    }
