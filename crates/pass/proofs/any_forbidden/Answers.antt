-- `any_forbidden` finds what `contains` does. Assumes nothing.
use mathlib.Core.Path.{◌∙◌}
use Rattle.lists.proofs.StdLaws.{member_any}
use Rattle.pass.proofs.any_forbidden.Goals as goal

pub returns : goal.returns
returns c = c.contains.ensures.value ∙ member_any 2 c.args.marks.now
