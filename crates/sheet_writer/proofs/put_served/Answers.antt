-- `put_served` writes the 1, the content behind it and the service minutes behind that. Assumes nothing.
use mathlib.Core.List.{List, [], ◌∷◌, ◌++◌}
use Prim.Native.Nat.{ℕ}
use lib.ListN.{set}
use Rattle.lists.proofs.FrontLaws.{Room, room_before, put_none, byte_within, put_byte, put_within, put_room, put_on_lem}
use Rattle.lists.specs.Lists.{Put}
use Rattle.varint.specs.Varint.{write_numbers}
use Rattle.sheet.proofs.SizeLaws.{served_bytes}
use Rattle.sheet.specs.Draft.{draft_sheet, sheet_numbers}
use Rattle.sheet_faults.specs.Drafted.{drafted}
use Rattle.sheet_writer.proofs.DraftLaws.{small_services}
use Rattle.sheet_writer.proofs.put_served.Goals as goal
use Rattle.sheet_writer.proofs.put_served.Goals.{Start}

-- the numbers of the content
abbrev content : goal.Start → List ℕ
content s = sheet_numbers (draft_sheet (drafted s.args.draft.now))

services-room : (s : goal.Start) → Room ((1 ∷ []) ++ write_numbers (content s)) (write_numbers s.args.draft.now.services.now) s.args.sheet.now
services-room s = record { fits = rw (served_bytes (content s) s.args.draft.now.services.now) at s.requires.numbers_fit }

content-room : (s : goal.Start) → Room (1 ∷ []) (write_numbers (content s)) s.args.sheet.now
content-room s = room_before (services-room s)

lead-room : (s : goal.Start) → Room [] (1 ∷ []) s.args.sheet.now
lead-room s = room_before {a = []} {b = 1 ∷ []} (content-room s)

-- the 1 stands in front
lead-put : (s : goal.Start) → Put (1 ∷ []) s.args.sheet.now (set s.args.sheet.now 0 1) 1
lead-put s = put_byte (lead-room s) (put_none s.args.sheet.now)

pub bounds-sheet-0 : goal.bounds-sheet-0
bounds-sheet-0 c = byte_within (lead-room (goal.at.bounds-sheet-0 c).Start) (put_none _)

pub slice_bounds-put_content-count : goal.slice_bounds-put_content-count
slice_bounds-put_content-count c = put_within (content-room (goal.at.slice_bounds-put_content-count c).Start) (lead-put (goal.at.slice_bounds-put_content-count c).Start)

pub slice_bounds-put_content-start : goal.slice_bounds-put_content-start
slice_bounds-put_content-start c =
    let s = (goal.at.slice_bounds-put_content-start c).Start in
    put_within (content-room s) (lead-put s)

pub put_content-end-requires : goal.put_content-end-requires
put_content-end-requires c = let s = (goal.at.put_content-end-requires c).Start in record { draft_faultless = s.requires.draft_faultless; content_fits = put_room (content-room s) (lead-put s) }

pub slice_bounds-put_numbers-count : goal.slice_bounds-put_numbers-count
slice_bounds-put_numbers-count c =
    let s = (goal.at.slice_bounds-put_numbers-count c).Start in
    put_within (services-room s) (put_on_lem (content-room s) (lead-put s) c.put_content-end.ensures)

pub slice_bounds-put_numbers-start : goal.slice_bounds-put_numbers-start
slice_bounds-put_numbers-start c =
    let s = (goal.at.slice_bounds-put_numbers-start c).Start in
    put_within (services-room s) (put_on_lem (content-room s) (lead-put s) c.put_content-end.ensures)

pub put_numbers-requires : goal.put_numbers-requires
put_numbers-requires c =
    let s = (goal.at.put_numbers-requires c).Start in
    (small_services _ s.requires.draft_faultless, put_room (services-room s) (put_on_lem (content-room s) (lead-put s) c.put_content-end.ensures))

pub returns : goal.returns
returns c =
    let s = (goal.at.returns c).Start in
    let w = put_on_lem (content-room s) (lead-put s) c.put_content-end.ensures in
    rw (served_bytes (content s) s.args.draft.now.services.now) (put_on_lem (services-room s) w c.put_numbers.ensures)
