-- `ways_pass` meets its contract: 1 and 2, or what the sheet draws, told in bytes. Assumes nothing.
use Rattle.std.proofs.Common.{rules, of_calls}
use Rattle.pass_rules.proofs.WithinLaws.{pass_within}
use Rattle.pass_rules.specs.Pass.{pass_on}
use Rattle.planner.specs.Layer.{passed_bytes}
use Rattle.planner.proofs.LayerLaws.{lent_small, lent_bytes}
use Rattle.planner.proofs.ways_pass.Goals as goal

pub one_number_of-requires : goal.one_number_of-requires
one_number_of-requires c =
    let e = c.lent-answer.ensures in
    lent_small (pass_on c.args.sheet.now) c.args.work.now c.args.slip.now (pass_within c.args.sheet.now) e.short_work e.short_slip (λ l m. search (rules, of_calls))

pub returns : goal.returns
unfolding passed_bytes
returns c =
    let e = c.lent-answer.ensures in
    lent_bytes (pass_on c.args.sheet.now) c.args.work.now c.args.slip.now (pass_within c.args.sheet.now) e.short_work e.short_slip (λ l m. search (rules, of_calls)) e.work_left c.one_number_of.ensures
