-- `write_sheet` meets its contract: the first fault, 19 where the measured sheet has no room, or the sheet. Assumes nothing.
use mathlib.Core.Path.{sym}
use Rattle.std.proofs.Common.{rules}
use Rattle.varint.proofs.RefusalLaws.{no_refusal}
use Rattle.sheet_writer.proofs.DraftLaws.{fault_written, short_written, sheet_written_lem}
use Rattle.sheet_writer.proofs.write_sheet.Goals as goal

pub returns-in_err-fault : goal.returns-in_err-fault
returns-in_err-fault c =
    let e = fault_written _ c.in_err-fault.ensures (no_refusal c.in_err-fault.field-0.0) c.args.sheet.now in
    search rules

pub returns-then-not-has_room : goal.returns-then-not-has_room
returns-then-not-has_room c = short_written _ (sym c.in_ok-fault.ensures) _ c.sheet_size.ensures c.has_room.ensures c.if-not-has_room.true

pub returns : goal.returns
returns c =
    sheet_written_lem _ (sym c.in_ok-fault.ensures) _ c.sheet_size.ensures c.has_room.ensures c.if-not-has_room.false
    c.put_sheet.ensures
