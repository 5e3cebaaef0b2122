-- `Store::put` meets its contract: short work, or what sheet and slip draw with the work left by that. Assumes nothing.
use mathlib.Core.Path.{refl}
use Rattle.store.proofs.PuttingLaws.{put_short, put_left}
use Rattle.store.proofs.Store.put.Goals as goal

pub returns-in-Ok : goal.returns-in-Ok
returns-in-Ok c = let a = c.put_sheet-answer.ensures in (put_left c.args.self c.args.sheet.now c.args.work.now c.args.slip.now (c.in-Ok.ensures.long refl) a c.number.ensures c.leave.ensures, a.same)

pub returns-in-Err : goal.returns-in-Err
returns-in-Err c = let e = c.in-Err.ensures.short in rw e.1 (put_short c.args.self c.args.sheet.now c.args.work.now c.args.slip.now e.0, λ _. refl)
