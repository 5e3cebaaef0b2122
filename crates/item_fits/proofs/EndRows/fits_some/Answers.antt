-- `item_fits::EndRows::fits_some` meets its contract: the row from the source at the target, against the limit. Assumes nothing.
use mathlib.Core.List.{[]}
use Rattle.item_fits.proofs.FitLaws.{target_fits}
use Rattle.item_fits.proofs.EndRows.fits_some.Goals as goal

pub returns : goal.returns
returns c = let r = c.args.self.now in target_fits r.sheet.whole [] _ (r.filled.from_source _ r.sheet.whole.target)
