-- `pass::pass_sheet` meets its contract: a refused sheet, or the slip of the sheet that was read. Assumes nothing.
use Rattle.std.proofs.Common.{rules}
use Rattle.pass.proofs.OutcomeLaws.{wrote_none, wrote_bytes}
use Rattle.pass_rules.proofs.SlipOfPass.{pass_finishes}
use Rattle.pass_rules.proofs.WithinLaws.{pass_refused}
use Rattle.pass.proofs.pass_sheet.Goals as goal

pub returns-in_err-taken : goal.returns-in_err-taken
returns-in_err-taken c =
    let e = wrote_none {slip = c.args.slip.now} ((pass_refused _ _).1 c.in_err-taken.ensures.taken_refused) in
    search rules

pub returns : goal.returns
returns c = wrote_bytes _ (pass_finishes _ _ c.in_ok-taken.ensures.loaded.makes) c.write_taken.ensures
