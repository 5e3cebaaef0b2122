-- `Store::take` meets its contract: a refused sheet, or what the slip draws on the sheet that was read, or what the newcomer leads to. Assumes nothing.
use Rattle.store.proofs.PuttingLaws.{refuses, bad_sheet, slip_refused, slip_goes, as_drawn}
use Rattle.store.proofs.ResultLaws.{err_given}
use Rattle.store.proofs.Store.take.Goals as goal

pub returns-in_err-taken : goal.returns-in_err-taken
returns-in_err-taken c =
    let e = err_given c.from_residual.result c.in_err-taken.field-0.0 c.from_residual.ensures.1 in
    rw e (refuses _ _ _ (bad_sheet c.args.self.now c.args.sheet.now c.args.slip.now _ c.in_err-taken.ensures.refused))

pub returns-in_err-slot : goal.returns-in_err-slot
returns-in_err-slot c =
    let e = err_given c.from_residual-in_err-slot.result c.in_err-slot.field-0.0 c.from_residual-in_err-slot.ensures.1 in
    rw e (refuses _ _ _ (slip_refused c.args.self.now c.args.sheet.now c.args.slip.now c.in_ok-taken.ensures.loaded c.judge.ensures _ c.in_err-slot.was))

pub returns : goal.returns
returns c = as_drawn (slip_goes c.args.self.now c.args.sheet.now c.args.slip.now c.in_ok-taken.ensures.loaded c.judge.ensures _ c.in_ok-slot.was) c.enter.ensures
