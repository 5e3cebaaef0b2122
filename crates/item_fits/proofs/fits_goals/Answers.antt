-- `item_fits::fits_goals` meets its contract: the least length over the goals, against the cap. Assumes nothing.
use mathlib.Core.Path.{◌∙◌}
use Rattle.goals.proofs.ToldLaws.{told_fits}
use Rattle.item_fits.proofs.fits_goals.Goals as goal

pub returns-clause-tells_whether_fits : goal.returns-clause-tells_whether_fits
returns-clause-tells_whether_fits c = c.is_some.ensures ∙ told_fits _ _ _ _ _ _ _ c.least.ensures.least_length
