-- What the check does not find of `fill_row`: a row with no entry is sound, and no arc can cut it before its start is set.
use Rattle.row_fill.proofs.FillLaws.{blank_mended}
use Rattle.row_fill.proofs.fill_row.Goals as goal

pub returns-clause-least_lengths : goal.returns-clause-least_lengths
returns-clause-least_lengths c =
    let r = c.requires in
    let below = rw c.length.ensures.0 at c.length.ensures.1 in
    blank_mended _ r.arcs_chained.0 r.row_and_start_fit.1 below r.row_and_start_fit.0 (c.fill.ensures.after (λ _ e. e)) c.mend_row.ensures.0
