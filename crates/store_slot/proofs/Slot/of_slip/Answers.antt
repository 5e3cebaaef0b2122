-- `Slot::of_slip` meets its contract: the slot shows the lists that were read. Assumes nothing.
use Rattle.slip_reader.specs.Claim.{claim_number}
use Rattle.store_slot.proofs.SlotLaws.{shown_read}
use Rattle.store_slot.proofs.Slot.of_slip.Goals as goal

pub returns : goal.returns
returns c =
    let f = c.args.form.now in
    rw c.from.ensures (shown_read (claim_number f.claim) c.args.limit f.goals.count f.reasons.count _ _ _ c.requires.0 f.goals.counted f.reasons.counted c.read_items.ensures)
