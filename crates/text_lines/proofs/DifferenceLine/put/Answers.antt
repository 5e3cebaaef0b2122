-- `DifferenceLine::put` writes the minus where it is due, and the number behind it.
use Rattle.std.proofs.Common.{ℕ, suc, ◌-◌, ◌≤◌, ◌<◌, List, length, arith}
use Rattle.lists.proofs.FrontLaws.{put_none, put_within, put_room, put_end, put_on_lem, byte_within}
use Rattle.text_lines.specs.Lines.{number_line, difference_line}
use Rattle.text_lines.proofs.LineLaws.{difference_low, difference_high, behind_byte, byte_room, byte_put}
use Rattle.text_lines.proofs.DifferenceLine.put.Goals as goal

-- the number and one byte in front of it have room
high : (whole part : ℕ) (out : List ℕ) → whole < part → length (difference_line whole part) ≤ length out → suc (length (number_line (part - whole))) ≤ length out
high whole part out h fits = rw (difference_high whole part h) at fits

pub put-requires : goal.put-requires
put-requires c = rw (difference_low c.args.self.now.whole c.args.self.now.part c.if-self.true) at c.requires

pub returns-then-self : goal.returns-then-self
returns-then-self c = rw (difference_low c.args.self.now.whole c.args.self.now.part c.if-self.true) c.put.ensures

pub bounds-out-0 : goal.bounds-out-0
bounds-out-0 c = omega (arith, byte_within (byte_room 0 _ _ (high _ _ _ c.if-self.false c.requires)) (put_none c.args.out.now))

pub slice_bounds-put-count : goal.slice_bounds-put-count
slice_bounds-put-count c = put_within (behind_byte _ _ _ (high _ _ _ c.if-self.false c.requires)) (byte_put _ _ _ (high _ _ _ c.if-self.false c.requires))

pub slice_bounds-put-start : goal.slice_bounds-put-start
slice_bounds-put-start c = put_within (behind_byte _ _ _ (high _ _ _ c.if-self.false c.requires)) (byte_put _ _ _ (high _ _ _ c.if-self.false c.requires))

pub put-requires-2 : goal.put-requires-2
put-requires-2 c = put_room (behind_byte _ _ _ (high _ _ _ c.if-self.false c.requires)) (byte_put _ _ _ (high _ _ _ c.if-self.false c.requires))

pub overflow_add-result : goal.overflow_add-result
overflow_add-result c = omega (arith, put_end (behind_byte _ _ _ (high _ _ _ c.if-self.false c.requires)) (byte_put _ _ _ (high _ _ _ c.if-self.false c.requires)) c.put-2.ensures)

pub returns : goal.returns
returns c =
    rw (difference_high c.args.self.now.whole c.args.self.now.part c.if-self.false)
    (put_on_lem (behind_byte 45 _ _ (high _ _ _ c.if-self.false c.requires)) (byte_put 45 _ _ (high _ _ _ c.if-self.false c.requires)) c.put-2.ensures)
