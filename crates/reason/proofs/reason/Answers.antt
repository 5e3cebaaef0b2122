-- `reason::reason` meets its contract: 1 and 2, or what the sheet draws with the work left by that. Assumes nothing.
use Rattle.std.proofs.Common.{rules, of_calls}
use Rattle.reason_rules.proofs.WithinLaws.{reason_within}
use Rattle.reason_rules.specs.Reason.{reason_on, reasoned}
use Rattle.pass.proofs.OutcomeLaws.{lent_outcome}
use Rattle.reason.proofs.reason.Goals as goal

pub returns : goal.returns
unfolding reasoned
returns c =
    let e = c.lent.ensures in
    lent_outcome (reason_on c.args.sheet.now c.args.item) c.args.work.now c.args.slip.now (reason_within c.args.sheet.now c.args.item) c.lent.result e.short_work e.short_slip
    (λ l m. search (rules, of_calls)) e.work_left
