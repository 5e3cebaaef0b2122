-- `item_fits::EndRows::fits_item` meets its contract: a length that is told is within the limit. Assumes nothing.
use mathlib.Core.Path.{◌∙◌}
use Rattle.sheet.specs.Sheet.{is_forbidden}
use Rattle.pass_rules.specs.Verdict.{fits_sheet}
use Rattle.goals.proofs.ToldLaws.{told_fits}
use Rattle.item_fits.proofs.EndRows.fits_item.Goals as goal

pub returns : goal.returns
unfolding fits_sheet is_forbidden
returns c = c.is_some.ensures ∙ told_fits _ _ _ _ _ _ _ c.least_through.ensures
