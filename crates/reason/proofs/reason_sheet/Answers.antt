-- `reason::reason_sheet` meets its contract: a refused sheet, or the answer for the item on the sheet that was read. Assumes nothing.
use mathlib.Core.Path.{sym, ap, ◌∙◌}
use Rattle.std.proofs.Common.{rules}
use Rattle.pass.proofs.OutcomeLaws.{wrote_none}
use Rattle.sheet.specs.Answer.{Answer, wrote}
use Rattle.reason.proofs.SaidLaws.{bad_sheet, on_sheet}
use Rattle.reason.proofs.reason_sheet.Goals as goal

pub returns-in_err-taken : goal.returns-in_err-taken
returns-in_err-taken c =
    let e = wrote_none {slip = c.args.slip.now} (bad_sheet _ c.args.item _ c.in_err-taken.ensures.taken_refused) in
    search rules

pub returns : goal.returns
returns c = c.explain_taken.ensures ∙ ap (λ (a : Answer). wrote a c.args.slip.now) (sym (on_sheet _ _ _ c.in_ok-taken.ensures.loaded.makes))
