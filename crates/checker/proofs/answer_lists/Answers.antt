-- `checker::answer_lists` meets its contract: the lists that are read stand in front of the arrays, and the tests are those of `judged_on`. Assumes nothing.
use mathlib.Core.Path.{refl, sym, ◌∙◌}
use mathlib.Core.Bool.{true, false}
use Rattle.sheet.specs.Sheet.{sheet_of}
use Rattle.sheet_required.proofs.WholeLaws.{items_are}
use Rattle.check_claim.proofs.FormLaws.{formed_asked}
use Rattle.closed_marks.proofs.ClosingLaws.{clear_fits}
use Rattle.checker.proofs.AnswerLaws.{answer_formed, answer_judged, of_lists}
use Rattle.checker.proofs.answer_lists.Goals as goal

pub returns-then-not-well_formed-clause-refused : goal.returns-then-not-well_formed-clause-refused
returns-then-not-well_formed-clause-refused c =
    let s = c.args.sheet.now in
    let S = sheet_of s.header s.arcs.now s.marks.now in
    let f = c.well_formed-2.ensures S (items_are s.whole) in
    of_lists S c.from-first.ensures c.read-goals.ensures c.read-reasons.ensures (answer_formed S _ (sym f ∙ c.if-not-well_formed.true))

pub returns-then-not-kinds_hold-clause-judged : goal.returns-then-not-kinds_hold-clause-judged
returns-then-not-kinds_hold-clause-judged c =
    let s = c.args.sheet.now in
    let S = sheet_of s.header s.arcs.now s.marks.now in
    let f = c.well_formed-2.ensures S (items_are s.whole) in
    of_lists S c.from-first.ensures c.read-goals.ensures c.read-reasons.ensures
    (answer_judged S _ false _ (sym f ∙ c.if-not-well_formed.false) (sym c.if-not-kinds_hold.true ∙ c.kinds_hold.ensures) refl refl)

pub closing-closed-requires : goal.closing-closed-requires
closing-closed-requires c =
    let s = c.args.sheet.now in
    let f = c.well_formed-2.ensures (sheet_of s.header s.arcs.now s.marks.now) (items_are s.whole) in
    (formed_asked c.from-first.result _ _ s.whole (sym f ∙ c.if-not-well_formed.false)).items

pub invariant_of-net : goal.invariant_of-net
invariant_of-net c =
    let s = c.args.sheet.now in
    let f = c.well_formed-2.ensures (sheet_of s.header s.arcs.now s.marks.now) (items_are s.whole) in
    (formed_asked c.from-first.result _ _ s.whole (sym f ∙ c.if-not-well_formed.false)).proper _ c.closing-closed.ensures.size

pub fits_goals-requires-clause-goals_and_scratch_fit : goal.fits_goals-requires-clause-goals_and_scratch_fit
fits_goals-requires-clause-goals_and_scratch_fit c =
    let s = c.args.sheet.now in
    let f = c.well_formed-2.ensures (sheet_of s.header s.arcs.now s.marks.now) (items_are s.whole) in
    let fit = (formed_asked c.from-first.result _ _ s.whole (sym f ∙ c.if-not-well_formed.false)).fit _ in
    rw c.sheet_query.ensures (fit, c.requires.scratch_long, s.whole.source, s.whole.target)

pub returns-clause-judged : goal.returns-clause-judged
returns-clause-judged c =
    let s = c.args.sheet.now in
    let S = sheet_of s.header s.arcs.now s.marks.now in
    let f = c.well_formed-2.ensures S (items_are s.whole) in
    let e = (rw c.sheet_query.ensures at c.fits_goals.ensures.tells_whether_fits) ∙ clear_fits _ _ _ _ _ c.closing-closed.ensures in
    of_lists S c.from-first.ensures c.read-goals.ensures c.read-reasons.ensures
    (answer_judged S _ true c.fits_goals.result (sym f ∙ c.if-not-well_formed.false) (sym c.if-not-kinds_hold.false ∙ c.kinds_hold.ensures) e refl)
