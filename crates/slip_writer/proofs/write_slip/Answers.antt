-- `write_slip` writes the first number, the goals behind it and the reasons behind those. Assumes nothing.
use mathlib.Core.List.{◌++◌}
use Rattle.lists.proofs.FrontLaws.{Room, room_before, first_fits, put_room, put_on_lem}
use Rattle.varint.specs.Varint.{write_number}
use Rattle.slip_reader.specs.Form.{list_bytes}
use Rattle.slip_reader.proofs.FormLaws.{slip_parts, small_parts}
use Rattle.slip_writer.proofs.write_slip.Goals as goal
use Rattle.slip_writer.proofs.write_slip.Goals.{Start}

reasons-room :
    (s : goal.Start) → Room (write_number s.args.first ++ list_bytes s.args.goals.now) (list_bytes s.args.reasons.now) s.args.slip.now
reasons-room s = record { fits = rw (slip_parts s.args.first s.args.goals.now s.args.reasons.now) at s.requires.slip_fits }

goals-room : (s : goal.Start) → Room (write_number s.args.first) (list_bytes s.args.goals.now) s.args.slip.now
goals-room s = room_before (reasons-room s)

pub put_number-at-requires : goal.put_number-at-requires
put_number-at-requires c = ((small_parts _ _ _ c.requires.numbers_small).0, first_fits (goals-room (goal.at.put_number-at-requires c).Start))

pub put_list-requires : goal.put_list-requires
put_list-requires c = ((small_parts _ _ _ c.requires.numbers_small).1, put_room (goals-room (goal.at.put_list-requires c).Start) c.put_number-at.ensures)

pub put_list-requires-2 : goal.put_list-requires-2
put_list-requires-2 c = ((small_parts _ _ _ c.requires.numbers_small).2, put_room (reasons-room (goal.at.put_list-requires-2 c).Start) (put_on_lem (goals-room (goal.at.put_list-requires-2 c).Start) c.put_number-at.ensures c.put_list.ensures))

pub returns : goal.returns
returns c = rw (slip_parts c.args.first c.args.goals.now c.args.reasons.now) (put_on_lem (reasons-room (goal.at.returns c).Start) (put_on_lem (goals-room (goal.at.returns c).Start) c.put_number-at.ensures c.put_list.ensures) c.put_list-2.ensures)
