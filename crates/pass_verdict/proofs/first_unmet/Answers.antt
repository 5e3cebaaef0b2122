-- What the invariants do not show of `first_unmet` by themselves.
use mathlib.Core.Path.{sym, ◌∙◌}
use native.Mathlib.Omega.{arith}
use borrow.Author.Count.{below_more}
use Rattle.sheet.specs.Sheet.{sheet_of}
use Rattle.sheet_required.proofs.RequiredLaws.{mark_told}
use Rattle.pass_verdict.proofs.JudgeLaws.{first_is, none_is, missed_item, met_item, other_item}
use Rattle.pass_verdict.proofs.first_unmet.Goals as goal
use Rattle.pass_verdict.proofs.first_unmet.Goals.{else-is_mandatory-via-then-is_mandatory+else-not-fits_item, else-is_mandatory-via-else-is_mandatory}

pub returns-then-not-fits_item : goal.returns-then-not-fits_item
returns-then-not-fits_item c =
    let s = c.args.rows.now.sheet in
    let S = sheet_of s.header s.arcs.now s.marks.now in
    first_is s.whole c.loop-item.item (omega (arith, s.whole.sized, c.loop-item-test.true)) c.loop-item.invariant
    (missed_item S c.loop-item.item c.fits_item.result (mark_told S _ c.mark-item.is c.loop-item-test.true ∙ sym c.is_mandatory.ensures ∙ c.if-is_mandatory.true) c.fits_item.ensures c.if-not-fits_item.true)

pub loop-item-preserved : goal.loop-item-preserved
loop-item-preserved c =
    let s = c.args.rows.now.sheet in
    let S = sheet_of s.header s.arcs.now s.marks.now in
    let m = mark_told S _ c.mark-item.is c.loop-item-test.true ∙ sym c.is_mandatory.ensures in
    below_more _ _ c.loop-item.invariant
    (elim c.else-is_mandatory.branch [
      | else-is_mandatory-via-then-is_mandatory+else-not-fits_item w ↦ met_item S c.loop-item.item w.fits_item.result (m ∙ w.if-is_mandatory.true) w.fits_item.ensures w.if-not-fits_item.false
      | else-is_mandatory-via-else-is_mandatory w ↦ other_item S c.loop-item.item (m ∙ w.if-is_mandatory.false)
    ])

pub returns : goal.returns
returns c =
    let W = c.args.rows.now.sheet.whole in
    none_is W (λ j h. c.loop-item.invariant j (omega (arith, W.sized, c.loop-item-test.false)))
