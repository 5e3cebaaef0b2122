-- `put_spaced` writes the space and the digits behind it.
use Rattle.std.proofs.Common.{arith}
use Rattle.lists.proofs.FrontLaws.{put_none, put_within, put_room, put_end, put_on_lem, byte_within}
use Rattle.text_lines.proofs.LineLaws.{behind_byte, byte_room, byte_put}
use Rattle.text_lines.proofs.put_spaced.Goals as goal

pub bounds-out-0 : goal.bounds-out-0
bounds-out-0 c = omega (arith, byte_within (byte_room 32 _ _ c.requires) (put_none c.args.out.now))

pub slice_bounds-put_decimal-count : goal.slice_bounds-put_decimal-count
slice_bounds-put_decimal-count c = put_within (behind_byte 32 _ _ c.requires) (byte_put 32 _ _ c.requires)

pub slice_bounds-put_decimal-start : goal.slice_bounds-put_decimal-start
slice_bounds-put_decimal-start c = put_within (behind_byte 32 _ _ c.requires) (byte_put 32 _ _ c.requires)

pub put_decimal-requires : goal.put_decimal-requires
put_decimal-requires c = put_room (behind_byte 32 _ _ c.requires) (byte_put 32 _ _ c.requires)

pub overflow_add-result : goal.overflow_add-result
overflow_add-result c = omega (arith, put_end (behind_byte 32 _ _ c.requires) (byte_put 32 _ _ c.requires) c.put_decimal.ensures)

pub returns : goal.returns
returns c = put_on_lem (behind_byte 32 _ _ c.requires) (byte_put 32 _ _ c.requires) c.put_decimal.ensures
