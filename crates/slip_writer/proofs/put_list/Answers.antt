-- `put_list` writes the count and the items behind it. Assumes nothing.
use native.Mathlib.Omega.{arith}
use lib.ListN.{length}
use Rattle.lists.proofs.FrontLaws.{Room, first_fits, put_room, put_on_lem}
use Rattle.varint.specs.Varint.{write_number, write_numbers}
use Rattle.slip_reader.specs.Form.{list_bytes}
use Rattle.slip_reader.proofs.FormLaws.{list_room, small_cons}
use Rattle.slip_writer.proofs.put_list.Goals as goal
use Rattle.slip_writer.proofs.put_list.Goals.{Start}

list-room : (s : goal.Start) → Room (write_number (length s.args.items.now)) (write_numbers s.args.items.now) s.args.out.now
list-room s = list_room s.args.items.now s.args.out.now s.requires.1

pub overflow_cast-items : goal.overflow_cast-items
overflow_cast-items c = omega (arith, (small_cons _ _ c.requires.0).0)

pub put_number-at-requires : goal.put_number-at-requires
put_number-at-requires c = ((small_cons _ _ c.requires.0).0, first_fits (list-room (goal.at.put_number-at-requires c).Start))

pub put_numbers-requires : goal.put_numbers-requires
put_numbers-requires c = ((small_cons _ _ c.requires.0).1, put_room (list-room (goal.at.put_numbers-requires c).Start) c.put_number-at.ensures)

pub returns : goal.returns
unfolding list_bytes write_numbers
returns c = put_on_lem (list-room (goal.at.returns c).Start) c.put_number-at.ensures c.put_numbers.ensures
