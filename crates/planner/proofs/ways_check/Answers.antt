-- `ways_check` meets its contract: 1, or what sheet and slip draw, told in bytes. Assumes nothing.
use Rattle.std.proofs.Common.{rules, of_calls}
use Rattle.planner.proofs.CheckLaws.{lent_small, lent_bytes}
use Rattle.planner.proofs.ways_check.Goals as goal

pub one_number_of-requires : goal.one_number_of-requires
one_number_of-requires c =
    let e = c.lent_work-answer.ensures in
    let n = c.counted.ensures in
    lent_small c.args.sheet.now c.args.work.now c.args.slip.now e.short (λ l. search (rules, of_calls)) n.number n.length

pub returns : goal.returns
returns c =
    let e = c.lent_work-answer.ensures in
    let n = c.counted.ensures in
    lent_bytes c.args.sheet.now c.args.work.now c.args.slip.now e.short (λ l. search (rules, of_calls)) n.number n.length e.work_left c.one_number_of.ensures
