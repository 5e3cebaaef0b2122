-- What the check does not find of `try_adding`: an arc that cuts makes its head active.
use Rattle.row_spread.proofs.SpreadLaws.{added_none, added_more}
use Rattle.row_spread.proofs.try_adding.Goals as goal

pub returns-then-try_arc : goal.returns-then-try_arc
returns-then-try_arc c = added_more (c.requires.0 c.args.arc c.requires.2).1 c.if-try_arc.true c.try_arc.ensures

pub returns : goal.returns
returns c = added_none (c.requires.0 c.args.arc c.requires.2).1 c.if-try_arc.false c.try_arc.ensures
