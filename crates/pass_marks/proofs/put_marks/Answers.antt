-- What the invariants do not show of `put_marks` by themselves.
use mathlib.Core.Path.{◌∙◌}
use native.Mathlib.Omega.{arith}
use Rattle.pass_marks.proofs.MarkingLaws.{marking_more, marking_done}
use Rattle.pass_marks.proofs.put_marks.Goals as goal

pub loop-item-preserved : goal.loop-item-preserved
loop-item-preserved c =
    let W = c.args.rows.now.sheet.whole in
    marking_more W c.args.out.now c.loop-item.out c.loop-item.item _ c.loop-item.invariant (omega arith) c.requires (c.from.ensures ∙ c.new_mark.ensures)

pub returns : goal.returns
returns c = marking_done c.args.rows.now.sheet.whole c.args.out.now c.loop-item.out c.loop-item.item c.loop-item.invariant (omega arith)
