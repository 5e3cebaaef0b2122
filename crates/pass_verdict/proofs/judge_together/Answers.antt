-- `pass_verdict::judge_together` meets its contract: the required items stand in front of the room, and the length layer says whether a walk meets them.
-- Assumes nothing.
use mathlib.Core.Path.{refl, sym, ap, ◌∙◌}
use native.Mathlib.Omega.{arith}
use Rattle.sheet.specs.Sheet.{is_forbidden, sheet_of}
use Rattle.pass_rules.specs.Verdict.{fits_sheet}
use Rattle.sheet_required.proofs.WholeLaws.{room_front}
use Rattle.pass_verdict.proofs.JudgeLaws.{required_fit, nothing_required, judged_stands, judged_apart}
use Rattle.pass_verdict.proofs.judge_together.Goals as goal
use Rattle.pass_verdict.proofs.judge_together.Goals.{then-count-eq0-via-then-count-eq0, then-count-eq0-via-else-count-eq0+then-fits_goals}

pub fits_goals-requires-clause-goals_and_scratch_fit : goal.fits_goals-requires-clause-goals_and_scratch_fit
fits_goals-requires-clause-goals_and_scratch_fit c =
    let W = c.args.sheet.now.whole in
    rw (c.net.ensures, c.sheet_query-query.ensures, room_front c.required_items-count.ensures (omega (arith, W.eight)))
    (required_fit W, c.requires.room_long.1, W.source, W.target)

pub returns-then-count-eq0 : goal.returns-then-count-eq0
unfolding fits_sheet is_forbidden
returns-then-count-eq0 c =
    let s = c.args.sheet.now in
    let F = c.requires.fits_and_each_must_met in
    let S = sheet_of s.header s.arcs.now s.marks.now in
    let q = c.required_items-count in
    judged_stands s.header s.arcs.now s.marks.now _ F.0 F.1
    (elim c.then-count-eq0.branch [
      | then-count-eq0-via-then-count-eq0 w ↦ nothing_required S F.0 (sym q.ensures.counted ∙ w.if-count-eq0.true)
      | then-count-eq0-via-else-count-eq0+then-fits_goals w ↦ ap (fits_sheet S) (sym (room_front q.ensures (omega (arith, s.whole.eight))))
          ∙ sym (rw (w.net.ensures, c.sheet_query-query.ensures) at w.fits_goals.ensures.tells_whether_fits) ∙ w.if-fits_goals.true
    ])

pub returns : goal.returns
unfolding fits_sheet is_forbidden
returns c =
    let s = c.args.sheet.now in
    let F = c.requires.fits_and_each_must_met in
    let f = c.fits_goals in
    let e = room_front c.required_items-count.ensures (omega (arith, s.whole.eight)) in
    judged_apart s.header s.arcs.now s.marks.now _ F.0 F.1 _ refl
    (ap (fits_sheet (sheet_of s.header s.arcs.now s.marks.now)) (sym e) ∙ sym (rw (c.net.ensures, c.sheet_query-query.ensures) at f.ensures.tells_whether_fits) ∙ c.if-fits_goals.false) e s.whole.eight
    (rw (c.net.ensures, c.sheet_query-query.ensures) at f.ensures.rows_filled)
