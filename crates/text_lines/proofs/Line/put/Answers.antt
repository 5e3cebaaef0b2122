-- `Line::put` writes the word, the numbers behind it and the line's end.
use Rattle.std.proofs.Common.{ℕ, ◌≤◌, List, [], ◌∷◌, ◌++◌, length, arith}
use Rattle.lists.proofs.FrontLaws.{Room, first_fits, room_before, put_within, put_room, put_end, put_on_lem, byte_within, put_byte}
use Rattle.text_lines.specs.Lines.{row, line}
use Rattle.text_lines.proofs.Line.put.Goals as goal

module _ (word xs out : List ℕ) (fits : length (line word xs) ≤ length out) where
  end-room : Room (word ++ row xs) (10 ∷ []) out
  end-room = record { fits = fits }

  row-room : Room word (row xs) out
  row-room = room_before end-room

pub put_bytes-at-requires : goal.put_bytes-at-requires
put_bytes-at-requires c = first_fits (row-room _ _ _ c.requires)

pub slice_bounds-put_row-count : goal.slice_bounds-put_row-count
slice_bounds-put_row-count c = put_within (row-room _ _ _ c.requires) c.put_bytes-at.ensures

pub put_row-requires : goal.put_row-requires
put_row-requires c = put_room (row-room _ _ _ c.requires) c.put_bytes-at.ensures

pub overflow_add-end : goal.overflow_add-end
overflow_add-end c = omega (arith, put_end (row-room _ _ _ c.requires) c.put_bytes-at.ensures c.put_row.ensures)

pub bounds-out-end : goal.bounds-out-end
bounds-out-end c = omega (arith, byte_within (end-room _ _ _ c.requires) (put_on_lem (row-room _ _ _ c.requires) c.put_bytes-at.ensures c.put_row.ensures))

pub overflow_add-result : goal.overflow_add-result
overflow_add-result c = omega (arith, byte_within (end-room _ _ _ c.requires) (put_on_lem (row-room _ _ _ c.requires) c.put_bytes-at.ensures c.put_row.ensures))

pub returns : goal.returns
returns c = put_byte (end-room _ _ _ c.requires) (put_on_lem (row-room _ _ _ c.requires) c.put_bytes-at.ensures c.put_row.ensures)
