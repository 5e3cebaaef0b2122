-- `pass_marks::new_mark` meets its contract, case by case. Assumes nothing.
use mathlib.Core.Path.{refl, sym, ◌∙◌}
use mathlib.Core.Bool.{true, false}
use borrow.Author.Tests.{eqb-true}
use Rattle.sheet.proofs.MarkLaws.{arc_free}
use Rattle.sheet.specs.Sheet.{mark_of, sheet_of}
use Rattle.sheet_required.proofs.RequiredLaws.{forced_one}
use Rattle.pass_marks.proofs.MarkingLaws.{mark_kept, mark_pruned, mark_open}
use Rattle.pass_marks.proofs.new_mark.Goals as goal
use Rattle.pass_marks.proofs.new_mark.Goals.{else-item-rows-via-then-item-rows+else-forced-item, else-item-rows-via-else-item-rows}

pub returns-then-not-is_open : goal.returns-then-not-is_open
unfolding mark_of
returns-then-not-is_open c =
    let s = c.args.rows.now.sheet in
    mark_kept (sheet_of s.header s.arcs.now s.marks.now) c.args.item _ c.mark-mark.ensures (sym c.is_open.ensures ∙ c.if-not-is_open.true)

pub returns-then-not-fits_item : goal.returns-then-not-fits_item
unfolding mark_of
returns-then-not-fits_item c =
    let s = c.args.rows.now.sheet in
    mark_pruned (sheet_of s.header s.arcs.now s.marks.now) c.args.item (sym c.mark-mark.ensures ∙ eqb-true _ 0 (sym c.is_open.ensures ∙ c.if-not-is_open.false))
    (sym c.fits_item.ensures ∙ c.if-not-fits_item.true)

pub returns-then-forced-item : goal.returns-then-forced-item
unfolding mark_of
returns-then-forced-item c =
    let s = c.args.rows.now.sheet in
    let S = sheet_of s.header s.arcs.now s.marks.now in
    mark_open S c.args.item 1 true (sym c.mark-mark.ensures ∙ eqb-true _ 0 (sym c.is_open.ensures ∙ c.if-not-is_open.false))
    (sym c.fits_item.ensures ∙ c.if-not-fits_item.false)
    (sym (forced_one S c.requires.forced_nodes s.whole.proper.few c.args.item c.if-item-rows.true) ∙ c.if-forced-item.true) refl

pub returns : goal.returns
unfolding mark_of
returns c =
    let s = c.args.rows.now.sheet in
    let S = sheet_of s.header s.arcs.now s.marks.now in
    mark_open S c.args.item 0 false (sym c.mark-mark.ensures ∙ eqb-true _ 0 (sym c.is_open.ensures ∙ c.if-not-is_open.false))
    (sym c.fits_item.ensures ∙ c.if-not-fits_item.false)
    (elim c.else-item-rows.branch [
      | else-item-rows-via-then-item-rows+else-forced-item w ↦ sym (forced_one S c.requires.forced_nodes s.whole.proper.few c.args.item w.if-item-rows.true) ∙ w.if-forced-item.false
      | else-item-rows-via-else-item-rows w ↦ arc_free S c.args.item w.if-item-rows.false
    ]) refl
