-- `item_fits::EndRows::least_through` meets its contract: the two sums are the least length through the item. Assumes nothing.
use Rattle.std.specs.Prelude.{Some}
use Rattle.goals.proofs.ToldLaws.{told_held}
use Rattle.item_fits.proofs.FitLaws.{told_through, untold_own, untold_past, there_at, back_at}
use Rattle.item_fits.proofs.EndRows.least_through.Goals as goal

pub returns-in_err-own : goal.returns-in_err-own
returns-in_err-own c =
    let e = rw (c.length.ensures.0, c.sheet_query-cap.ensures, c.net.ensures) at c.in_err-own.ensures in
    rw c.from_residual.ensures (untold_own c.args.self.now.sheet.whole c.args.item c.requires e)

pub returns-in_err-past : goal.returns-in_err-past
returns-in_err-past c =
    let r = c.args.self.now in
    let own = told_held _ _ (Some c.in_ok-own.own) (rw (c.length.ensures.0, c.sheet_query-cap.ensures, c.net.ensures) at c.in_ok-own.ensures) in
    let none = (rw c.sheet_query-cap.ensures at c.in_err-past.ensures) _ _ (there_at r.sheet.whole r.filled c.args.item _ c.entry.ensures) own in
    rw c.from_residual-in_err-past.ensures (untold_past r.sheet.whole c.args.item c.requires none)

pub returns : goal.returns
returns c =
    let r = c.args.self.now in
    let own = told_held _ _ (Some c.in_ok-own.own) (rw (c.length.ensures.0, c.sheet_query-cap.ensures, c.net.ensures) at c.in_ok-own.ensures) in
    let past = told_held _ _ (Some c.in_ok-past.past) ((rw c.sheet_query-cap.ensures at c.in_ok-past.ensures) _ _ (there_at r.sheet.whole r.filled c.args.item _ c.entry.ensures) own) in
    told_through r.sheet.whole c.args.item c.requires _
    ((rw c.sheet_query-cap.ensures at c.sum-2.ensures) _ _ past (back_at r.sheet.whole r.filled c.args.item _ c.exit.ensures))
