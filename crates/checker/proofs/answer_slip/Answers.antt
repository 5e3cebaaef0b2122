-- `checker::answer_slip` meets its contract: 17 for a slip that is badly written, 18 for one whose lists are too long, else what its lists draw.
-- Assumes nothing.
use mathlib.Core.Path.{sym, ◌∙◌}
use borrow.Author.Tests.{ltb-false}
use Rattle.lists.proofs.TestLaws.{or_false}
use Rattle.sheet.specs.Sheet.{sheet_of}
use Rattle.sheet_required.proofs.WholeLaws.{items_are}
use Rattle.check_claim.proofs.FormLaws.{too_many}
use Rattle.checker.proofs.AnswerLaws.{answer_formed}
use Rattle.checker.proofs.CheckedLaws.{form_judged}
use Rattle.checker.proofs.answer_slip.Goals as goal

pub answer_lists-requires-clause-lists_short : goal.answer_lists-requires-clause-lists_short
answer_lists-requires-clause-lists_short c =
    let f = or_false _ _ (sym c.too_long.ensures ∙ c.if-too_long.false) in
    (ltb-false _ _ f.0, ltb-false _ _ f.1)

pub returns-then-too_long-clause-refused : goal.returns-then-too_long-clause-refused
returns-then-too_long-clause-refused c =
    let s = c.args.sheet.now in
    let S = sheet_of s.header s.arcs.now s.marks.now in
    let form = c.in_ok-form.form in
    form_judged S c.args.slip.now c.in_ok-form.ensures.got
    ∙ answer_formed S _ (too_many S _ _ _ form.goals.counted form.reasons.counted (items_are s.whole) (sym c.too_long.ensures ∙ c.if-too_long.true))

pub returns-clause-judged : goal.returns-clause-judged
returns-clause-judged c =
    let s = c.args.sheet.now in
    rw (form_judged (sheet_of s.header s.arcs.now s.marks.now) c.args.slip.now c.in_ok-form.ensures.got) c.answer_lists.ensures.judged

pub returns-clause-refused : goal.returns-clause-refused
returns-clause-refused c =
    let s = c.args.sheet.now in
    rw (form_judged (sheet_of s.header s.arcs.now s.marks.now) c.args.slip.now c.in_ok-form.ensures.got) c.answer_lists.ensures.refused
