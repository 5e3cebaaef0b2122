-- `past_numbers` gives what is left after the numbers. Assumes nothing.
use Rattle.sheet_view.proofs.ViewLaws.{past_read, past_refused}
use Rattle.sheet_view.proofs.past_numbers.Goals as goal

pub returns-in-Ok : goal.returns-in-Ok
returns-in-Ok c = past_read _ _ c.in-Ok.ensures.got

pub returns-in-Err : goal.returns-in-Err
returns-in-Err c = past_refused _ _ c.in-Err.ensures.refused
