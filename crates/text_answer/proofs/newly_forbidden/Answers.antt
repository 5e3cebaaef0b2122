-- Behind the last item all are listed.
use Rattle.std.proofs.Common.{◌∙◌, arith}
use Rattle.text_answer.proofs.ListLaws.{newly_all}
use Rattle.text_answer.proofs.newly_forbidden.Goals as goal

pub returns : goal.returns
returns g c = c.loop-item.invariant.1 ∙ newly_all c.args.marks.now c.args.slip.now c.loop-item.item (omega (arith, c.loop-item-test.false, c.loop-item.auto.item-end))
