-- `checker::check` meets its contract: short work, or what sheet and slip draw with the work left by that. Assumes nothing.
use Rattle.std.proofs.Common.{rules, of_calls}
use Rattle.checker.proofs.CheckedLaws.{checked_lent}
use Rattle.checker.proofs.check.Goals as goal

pub returns : goal.returns
returns c =
    let e = c.lent_work.ensures in
    checked_lent c.args.sheet.now c.args.work.now c.args.slip.now c.lent_work.result e.short (λ l. search (rules, of_calls)) e.work_left
