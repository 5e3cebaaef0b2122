-- `ways_write` meets its contract: what the writer answers, told in one number. Assumes nothing.
use Rattle.planner.proofs.WriteLaws.{write_number, write_small}
use Rattle.planner.proofs.ways_write.Goals as goal

pub one_number_of-requires : goal.one_number_of-requires
one_number_of-requires c = write_small _ _ _ c.write_sheet.ensures

pub returns : goal.returns
returns c = let w = write_number _ _ _ c.write_sheet.ensures c.one_number_of.ensures in rw c.header_of.ensures at w
