-- The text of an input has room, and it is the text of what is told of the input.
use Rattle.std.proofs.Common.{arith, ap, length}
use Rattle.text_answer.proofs.SizeLaws.{within}
use Rattle.cost_rules.proofs.CostLaws.{cost_size}
use Rattle.text_cost.proofs.report_cost.Goals as goal

pub put-requires : goal.put-requires
put-requires c = omega (arith, c.requires, cost_size c.args.input.now, ap length c.tell_cost.ensures)

pub returns : goal.returns
returns c =
    let written = rw c.tell_cost.ensures at c.put.ensures in
    record { text_in_front = written; length_inside = within _ c.args.out.now _ _ written.0 written.1 }
