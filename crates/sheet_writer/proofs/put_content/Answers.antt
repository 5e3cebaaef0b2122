-- `put_content` writes the five numbers, the arcs' numbers behind them and the marks behind those. Assumes nothing.
use mathlib.Core.Path.{ap, ◌∙◌}
use mathlib.Core.List.{◌++◌}
use Rattle.lists.proofs.FrontLaws.{Room, room_before, first_fits, put_room, put_on_lem}
use Rattle.lists.specs.Lists.{Put}
use Rattle.varint.specs.Answer.{small}
use Rattle.varint.specs.Varint.{write_numbers}
use Rattle.sheet.specs.Draft.{header_numbers}
use Rattle.sheet_writer.proofs.DraftLaws.{small_header, small_arcs, content_bytes, put_as}
use Rattle.sheet_writer.proofs.put_content.Goals as goal
use Rattle.sheet_writer.proofs.put_content.Goals.{After-slice_known-2-1, Start}

marks-room :
    (s : goal.Start)
    → Room (write_numbers (header_numbers s.args.draft.now.header) ++ write_numbers s.args.draft.now.arcs.now) s.args.draft.now.marks.now s.args.out.now
marks-room s = record { fits = rw (content_bytes _ s.requires.draft_faultless) at s.requires.content_fits }

arcs-room : (s : goal.Start) → Room (write_numbers (header_numbers s.args.draft.now.header)) (write_numbers s.args.draft.now.arcs.now) s.args.out.now
arcs-room s = room_before (marks-room s)

-- the five numbers stand in front
header-put : (p : goal.After-slice_known-2-1) → let q = p.put_numbers-at in
    Put (write_numbers (header_numbers p.args.draft.now.header)) p.args.out.now q.new.out q.result
header-put p = put_as _ p.header_numbers-numbers.ensures p.put_numbers-at.ensures

pub header_numbers-numbers-requires : goal.header_numbers-numbers-requires
header_numbers-numbers-requires c = small_header _ c.requires.draft_faultless

pub put_numbers-at-requires : goal.put_numbers-at-requires
put_numbers-at-requires c =
    let e = c.header_numbers-numbers.ensures in
    (ap small e ∙ small_header _ c.requires.draft_faultless, rw e (first_fits (arcs-room (goal.at.put_numbers-at-requires c).Start)))

pub put_numbers-requires : goal.put_numbers-requires
put_numbers-requires c =
    let s = (goal.at.put_numbers-requires c).Start in
    (small_arcs _ s.requires.draft_faultless, put_room (arcs-room s) (header-put (goal.at.put_numbers-requires c).After-slice_known-2-1))

pub put_bytes-requires : goal.put_bytes-requires
put_bytes-requires c =
    let s = (goal.at.put_bytes-requires c).Start in
    put_room (marks-room s) (put_on_lem (arcs-room s) (header-put (goal.at.put_bytes-requires c).After-slice_known-2-1) c.put_numbers.ensures)

pub returns : goal.returns
returns c =
    let s = (goal.at.returns c).Start in
    let w = put_on_lem (arcs-room s) (header-put (goal.at.returns c).After-slice_known-2-1) c.put_numbers.ensures in
    rw (content_bytes _ s.requires.draft_faultless) (put_on_lem (marks-room s) w c.put_bytes.ensures)
