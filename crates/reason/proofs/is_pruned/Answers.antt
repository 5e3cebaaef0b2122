-- `reason::is_pruned` meets its contract. Assumes nothing.
use Prim.Native.Nat.{ℕ}
use mathlib.Core.Path.{sym, ap, ◌∙◌}
use lib.Dec.{eqb}
use Rattle.sheet.specs.Sheet.{is_open, mark_of, sheet_of}
use Rattle.pass_verdict.specs.VerdictFound.{number_of_verdict}
use Rattle.pass_verdict.proofs.JudgeLaws.{refused_number}
use Rattle.reason.proofs.ItemLaws.{not_standing, not_open, by_walks}
use Rattle.reason.proofs.is_pruned.Goals as goal

pub returns-then-is_open : goal.returns-then-is_open
unfolding is_open mark_of
returns-then-is_open c =
    let s = c.args.sheet.now in
    let V = rw c.of-rows.ensures at c.find_verdict.ensures in
    let free = ap (λ (m : ℕ). eqb m 0) (sym c.mark.ensures) ∙ sym c.is_open.ensures ∙ c.if-is_open.true in
    by_walks (sheet_of s.header s.arcs.now s.marks.now) c.args.item c.fits_item.result (sym V.number ∙ ap number_of_verdict c.in-Stands.is) free (rw c.of-rows.ensures at c.fits_item.ensures)

pub returns-else-is_open : goal.returns-else-is_open
unfolding is_open mark_of
returns-else-is_open c =
    let s = c.args.sheet.now in
    let V = rw c.of-rows.ensures at c.find_verdict.ensures in
    let shut = ap (λ (m : ℕ). eqb m 0) (sym c.mark.ensures) ∙ sym c.is_open.ensures ∙ c.if-is_open.false in
    c.if-is_open.false ∙ not_open (sheet_of s.header s.arcs.now s.marks.now) c.args.item (sym V.number ∙ ap number_of_verdict c.in-Stands.is) shut

pub returns-in_default : goal.returns-in_default
returns-in_default c =
    let s = c.args.sheet.now in
    let V = rw c.of-rows.ensures at c.find_verdict.ensures in
    not_standing (sheet_of s.header s.arcs.now s.marks.now) c.args.item (λ z. refused_number _ c.in_default.not-Stands (V.number ∙ z))
