-- `pass::pass` meets its contract: 1 and 2, or what the sheet draws with the work left by that. Assumes nothing.
use Rattle.std.proofs.Common.{rules, of_calls}
use Rattle.pass_rules.proofs.WithinLaws.{pass_within}
use Rattle.pass_rules.specs.Pass.{pass_on, passed}
use Rattle.pass.proofs.OutcomeLaws.{lent_outcome}
use Rattle.pass.proofs.pass.Goals as goal

pub returns : goal.returns
unfolding passed
returns c =
    let e = c.lent.ensures in
    lent_outcome (pass_on c.args.sheet.now) c.args.work.now c.args.slip.now (pass_within c.args.sheet.now) c.lent.result e.short_work e.short_slip (λ l m. search (rules, of_calls)) e.work_left
