-- `store_bytes::put_bytes` meets its contract: short work, or what sheet and slip draw, told in bytes. Assumes nothing.
use mathlib.Core.Path.{refl}
use native.Mathlib.Omega.{arith}
use Rattle.store.specs.Held.{shelf_of}
use Rattle.store_bytes.proofs.BytesLaws.{put_small, put_short, put_in_bytes}
use Rattle.store_bytes.proofs.put_bytes.Goals as goal

pub returns-in-Err : goal.returns-in-Err
returns-in-Err c =
    let e = c.in-Err.ensures.short in
    (rw (c.one_number-in-Err.ensures, c.from.ensures, e.1) (put_short c.args.store c.args.sheet.now c.args.work.now c.args.slip.now e.0), λ _. refl)

pub one_number-requires : goal.one_number-requires
one_number-requires c = (omega (arith, c.number-number.ensures, put_small (shelf_of c.args.store) c.args.sheet.now c.args.slip.now c.put_sheet-answer.ensures.answer), omega arith)

pub returns-in-Ok : goal.returns-in-Ok
returns-in-Ok c = let a = c.put_sheet-answer.ensures in (put_in_bytes c.args.store c.args.sheet.now c.args.work.now c.args.slip.now (c.in-Ok.ensures.long refl) a c.number-number.ensures c.one_number.ensures c.leave.ensures, a.same)
