-- Behind the last item all are listed.
use Rattle.std.proofs.Common.{◌∙◌, arith}
use Rattle.text_answer.proofs.ListLaws.{newly_all}
use Rattle.text_answer.proofs.newly_forbidden_indices.Goals as goal

pub returns : goal.returns
returns g c = c.loop-i.invariant.1 ∙ newly_all c.args.marks.now c.args.slip.now c.loop-i.i (omega (arith, c.loop-i-test.false, c.loop-i.auto.i-end))
