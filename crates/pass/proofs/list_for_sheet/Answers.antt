-- `pass::list_for_sheet` meets its contract: the greedy list for the sheet's own limit, and an empty one where nothing is forbidden. Assumes nothing.
use mathlib.Core.Path.{sym, ◌∙◌}
use native.Mathlib.Omega.{arith}
use Rattle.sheet.specs.Sheet.{is_forbidden}
use Rattle.pass_rules.specs.Verdict.{fits_sheet, reasons_for}
use Rattle.reason_list.proofs.NothingLaws.{reasons_none}
use Rattle.pass.proofs.list_for_sheet.Goals as goal

pub list_reasons-requires : goal.list_reasons-requires
unfolding fits_sheet is_forbidden
list_reasons-requires c =
    let U = c.requires.blamed.0 in
    let W = U.whole in
    let f = c.any_forbidden.ensures in
    rw (c.net.ensures, c.sheet_query.ensures)
    (record {
      few_arcs = omega (arith, W.sized.0, W.few);
      goals_fit = (U.fit, omega (arith, W.sized.1, W.proper.few, W.few));
      listable = (c.requires.blamed.1, omega (arith, c.requires.blamed.2, W.sized.0, W.proper.few, W.few), W.source, W.target);
      no_walk_fits = (U.unmet, c.requires.rows_ready_if_forbidden (sym f ∙ c.if-any_forbidden.true));
    })

pub returns-then-any_forbidden : goal.returns-then-any_forbidden
unfolding reasons_for
returns-then-any_forbidden c = rw (c.net.ensures, c.sheet_query.ensures) at c.list_reasons.ensures

pub returns : goal.returns
unfolding reasons_for
returns c =
    let none = sym c.any_forbidden.ensures ∙ c.if-any_forbidden.false in
    (rw (reasons_none _ _ _ _ _ _ none), rw (reasons_none _ _ _ _ _ _ none))
