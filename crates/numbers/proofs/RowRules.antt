-- The laws by which numbers that are written one after the other close their goals.
use Rattle.lists.proofs.RowLaws.{begun, row_within, row_room, row_end, row_more, row_done}
use Rattle.varint.proofs.WriteLaws.{numbers_rows, small_at}

pub ruleset row_rules = (begun, row_within, row_room, row_end, row_more, row_done, numbers_rows, small_at)
