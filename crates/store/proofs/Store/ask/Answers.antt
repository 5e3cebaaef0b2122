-- `Store::ask` meets its contract: a refused sheet, another base, or the earliest slip that applies to the sheet that was read. Assumes nothing.
use mathlib.Core.Path.{◌∙◌}
use Rattle.store.proofs.AskingLaws.{ask_refused, ask_other, ask_found}
use Rattle.store.proofs.ResultLaws.{err_given}
use Rattle.store.proofs.Store.ask.Goals as goal

pub returns-in_err-taken : goal.returns-in_err-taken
returns-in_err-taken c =
    let e = err_given c.from_residual.result c.in_err-taken.field-0.0 c.from_residual.ensures.1 in
    rw e (ask_refused c.args.self.now c.args.sheet.now _ c.in_err-taken.ensures.refused)

pub returns-then-not-fits_base : goal.returns-then-not-fits_base
returns-then-not-fits_base c = ask_other c.args.self.now c.args.sheet.now c.in_ok-taken.ensures.loaded c.fits_base.ensures c.if-not-fits_base.true

pub returns : goal.returns
returns c = ask_found c.args.self.now c.args.sheet.now c.in_ok-taken.ensures.loaded c.fits_base.ensures c.if-not-fits_base.false (c.copied.ensures ∙ c.first_applying.ensures)
