-- `store_bytes::write_slot` meets its contract: the slot's lists make the slip that it shows. Assumes nothing.
use Prim.Native.Nat.{◌≤◌}
use mathlib.Core.Path.{◌≡◌, sym, subst}
use mathlib.Core.Bool.{true}
use native.Mathlib.Omega.{arith}
use lib.ListN.{length}
use Rattle.varint.specs.Answer.{small}
use Rattle.sheet.specs.Slip.{Slip, slip_numbers, slip_bytes}
use Rattle.store_bytes.proofs.BytesLaws.{short_small, short_size, slot_short, slot_slip, wrote_as}
use Rattle.store_bytes.proofs.write_slot.Goals as goal

pub write_slip-requires : goal.write_slip-requires
write_slip-requires c =
    let k = c.args.slot.now in
    let l = c.reasons.ensures.few in
    let e = sym (slot_slip k c.first_number.ensures c.goals.ensures c.reasons.ensures.shown) in record { numbers_small = subst (λ (t : Slip). small (slip_numbers t) ≡ true) e (short_small (slot_short k l c.requires.0)); slip_fits = subst (λ (t : Slip). length (slip_bytes t) ≤ length c.args.slip.now) e (omega (arith, (short_size (slot_short k l c.requires.0)).1, c.requires.1)) }

pub returns : goal.returns
returns c =
    let k = c.args.slot.now in
    let l = c.reasons.ensures.few in
    let w = wrote_as (slot_slip k c.first_number.ensures c.goals.ensures c.reasons.ensures.shown) _ _ _ c.write_slip.ensures in
    (w, omega (arith, w.0, (short_size (slot_short k l c.requires.0)).1))
