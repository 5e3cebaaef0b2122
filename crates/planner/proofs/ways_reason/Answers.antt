-- `ways_reason` meets its contract: 1 and 2, or what the sheet draws, told in bytes. Assumes nothing.
use Rattle.std.proofs.Common.{rules, of_calls}
use Rattle.reason_rules.proofs.WithinLaws.{reason_within}
use Rattle.reason_rules.specs.Reason.{reason_on}
use Rattle.planner.specs.Layer.{reasoned_bytes}
use Rattle.planner.proofs.LayerLaws.{lent_small, lent_bytes}
use Rattle.planner.proofs.ways_reason.Goals as goal

pub one_number_of-requires : goal.one_number_of-requires
one_number_of-requires c =
    let e = c.lent-answer.ensures in
    lent_small (reason_on c.args.sheet.now c.args.item) c.args.work.now c.args.slip.now (reason_within c.args.sheet.now c.args.item) e.short_work e.short_slip (λ l m. search (rules, of_calls))

pub returns : goal.returns
unfolding reasoned_bytes
returns c =
    let e = c.lent-answer.ensures in
    lent_bytes (reason_on c.args.sheet.now c.args.item) c.args.work.now c.args.slip.now (reason_within c.args.sheet.now c.args.item) e.short_work e.short_slip (λ l m. search (rules, of_calls)) e.work_left c.one_number_of.ensures
