-- The sheet that was read is within the arrays. Assumes nothing.
use Rattle.std.proofs.Common.{arith}
use Rattle.examples.proofs.show_again.Goals as goal

pub overflow_mul-numbers : goal.overflow_mul-numbers
overflow_mul-numbers g c = omega (arith, c.in-Ok.ensures.loaded.whole.few)

pub overflow_add-items : goal.overflow_add-items
overflow_add-items g c = let W = c.in-Ok.ensures.loaded.whole in omega (arith, W.few, W.proper.few)

pub slice_bounds-legs-end : goal.slice_bounds-legs-end
slice_bounds-legs-end g c = omega (arith, c.in-Ok.ensures.loaded.whole.few, c.legs_of-legs.ensures)

pub slice_bounds-marks-end : goal.slice_bounds-marks-end
slice_bounds-marks-end g c = let W = c.in-Ok.ensures.loaded.whole in omega (arith, W.few, W.proper.few, c.read_page.auto.marks)

pub slice_bounds-services-end : goal.slice_bounds-services-end
slice_bounds-services-end g c = omega (arith, c.in-Ok.ensures.loaded.whole.proper.few, c.read_page.auto.services)
