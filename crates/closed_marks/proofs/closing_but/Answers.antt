-- `closed_marks::closing_but` meets its contract: the listed items are closed, and one is opened again. Assumes nothing.
use Rattle.closed_marks.proofs.ClosingLaws.{open_one}
use Rattle.closed_marks.proofs.closing_but.Goals as goal

pub returns : goal.returns
returns c = open_one _ _ c.args.opened c.requires.1 c.closing-marks.ensures
