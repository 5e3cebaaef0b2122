-- With the other listed closures shut.
use Rattle.cost_lines.proofs.LengthLaws.{opened_is}
use Rattle.cost_lines.proofs.length_opened.Goals as goal

pub returns : goal.returns
returns c = opened_is c.args.sheet.now.header c.args.sheet.now.arcs.now c.args.list.now _ c.args.item c.args.opened _ c.closing_but-marks.ensures c.length_through.ensures
