-- `pass_verdict::find_verdict` meets its contract: the tests for verdicts 1, 2 and 3, in this order. Assumes nothing.
use mathlib.Core.Path.{sym, ◌∙◌}
use Rattle.sheet.specs.Sheet.{sheet_of}
use Rattle.pass_rules.specs.Verdict.{unmet}
use Rattle.pass_verdict.proofs.JudgeLaws.{unmet_found, unmet_empty, judged_no_way, judged_unmet}
use Rattle.pass_verdict.proofs.find_verdict.Goals as goal

pub returns-then-not-fits_some : goal.returns-then-not-fits_some
returns-then-not-fits_some c =
    let s = c.args.rows.now.sheet in
    judged_no_way s.header s.arcs.now s.marks.now _ (sym c.fits_some.ensures ∙ c.if-not-fits_some.true)

pub returns-in-Some : goal.returns-in-Some
returns-in-Some c =
    let s = c.args.rows.now.sheet in
    let f = unmet_found (unmet (sheet_of s.header s.arcs.now s.marks.now)) c.in-Some.item (sym c.in-Some.is ∙ c.first_unmet.ensures) in
    judged_unmet s.header s.arcs.now s.marks.now _ c.in-Some.item f.0 (sym c.fits_some.ensures ∙ c.if-not-fits_some.false) f.1

pub judge_together-requires-clause-fits_and_each_must_met : goal.judge_together-requires-clause-fits_and_each_must_met
judge_together-requires-clause-fits_and_each_must_met c =
    let s = c.args.rows.now.sheet in
    (sym c.fits_some.ensures ∙ c.if-not-fits_some.false, unmet_empty (unmet (sheet_of s.header s.arcs.now s.marks.now)) (sym c.in_default.is ∙ c.first_unmet.ensures))
