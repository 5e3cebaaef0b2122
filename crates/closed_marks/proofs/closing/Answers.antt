-- What the invariant does not show of `closing` by itself.
use native.Mathlib.Omega.{arith}
use Rattle.lists.proofs.MemberLaws.{place_member}
use Rattle.closed_marks.proofs.ClosingLaws.{closing_begun, closing_more, closing_done}
use Rattle.closed_marks.proofs.closing.Goals as goal

pub loop-item-init : goal.loop-item-init
loop-item-init c = closing_begun _

pub bounds-marks-item : goal.bounds-marks-item
bounds-marks-item c = c.requires _ (place_member _ _ c.loop-item-test.true)

pub listed : goal.listed
listed c = omega (arith, c.loop-item.invariant.size, c.requires _ (place_member c.args.list.now c.loop-item.item-index c.loop-item-test.true))

pub loop-item-preserved : goal.loop-item-preserved
loop-item-preserved c = closing_more _ _ _ c.loop-item-test.true c.requires c.loop-item.invariant

pub returns : goal.returns
returns c = closing_done _ _ _ c.loop-item-test.false c.loop-item.invariant
