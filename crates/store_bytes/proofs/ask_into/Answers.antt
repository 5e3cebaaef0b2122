-- `ask_into` meets its contract: a short slip, what the sheet draws, or the slip that was found, written. Assumes nothing.
use Prim.Native.Nat.{ℕ, ◌+◌, ◌*◌}
use mathlib.Core.Path.{◌≡◌, refl, sym, ap, ◌∙◌}
use native.Mathlib.Omega.{arith}
use Rattle.store.proofs.ResultLaws.{err_given, number_positive}
use Rattle.varint.specs.Refusal.{number_in}
use Rattle.store.specs.Held.{shelf_of, found_slot, found_in}
use Rattle.store_slot.specs.Slot.{shown}
use Rattle.store_bytes.proofs.BytesLaws.{ask_refused, ask_none, ask_wrote, ask_named, ask_short}
use Rattle.store_bytes.proofs.ask_into.Goals as goal

pub returns-in_err-enough_slip-clause-told : goal.returns-in_err-enough_slip-clause-told
returns-in_err-enough_slip-clause-told c =
    let k = c.in_err-enough_slip in
    let e = err_given c.from_residual.result k.field-0.0 c.from_residual.ensures.1 in
    rw (e, k.ensures.short.1) (ask_short (shelf_of c.args.store.now) c.args.sheet.now c.args.slip.now k.ensures.short.0)

pub returns-in_err-found-clause-told : goal.returns-in_err-found-clause-told
returns-in_err-found-clause-told c =
    let k = c.in_err-found in
    let f = c.from_residual-in_err-found in
    let e = err_given f.result k.field-0.0 f.ensures.1 in
    let n = ap number_in k.was in
    rw e (ask_refused (shelf_of c.args.store.now) c.args.sheet.now c.ask.ensures c.args.slip.now (λ z. number_positive k.field-0.0 (sym n ∙ z)) (c.in_ok-enough_slip.ensures.long refl)
    (ap (λ (x : ℕ). 65536 * x + 0) (sym n)))

pub write_slot-requires : goal.write_slot-requires
write_slot-requires c =
    let k = c.in-Some in
    let w = c.in_ok-found.was in
    (ask_named (shelf_of c.args.store.now) c.args.sheet.now c.ask.ensures (ap number_in w) (shown k.slot) (ap found_in w ∙ ap found_slot k.is), c.in_ok-enough_slip.ensures.long refl)

pub returns-in-Some-clause-told : goal.returns-in-Some-clause-told
returns-in-Some-clause-told c =
    let k = c.in-Some in
    let w = c.in_ok-found.was in
    let z : 0 + c.write_slot.result ≡ c.write_slot.result = omega arith in
    rw z (ask_wrote (shelf_of c.args.store.now) c.args.sheet.now c.ask.ensures c.args.slip.now (ap number_in w) (shown k.slot) (ap found_in w ∙ ap found_slot k.is)
    (c.in_ok-enough_slip.ensures.long refl) c.write_slot.ensures.0)

pub returns-in-None-clause-told : goal.returns-in-None-clause-told
returns-in-None-clause-told c =
    let w = c.in_ok-found.was in
    ask_none (shelf_of c.args.store.now) c.args.sheet.now c.ask.ensures c.args.slip.now (ap number_in w) (ap found_in w ∙ ap found_slot c.in-None.is) (c.in_ok-enough_slip.ensures.long refl)
