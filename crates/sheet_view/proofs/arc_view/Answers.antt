-- `arc_view` reads the sheet, passes over the numbers before the arc's and over its own, and hands back what stands between. Assumes nothing.
use Rattle.std.proofs.Common.{refl}
use native.Mathlib.Omega.{arith}
use Rattle.sheet_view.proofs.ViewLaws.{in_order, view_refused, view_none, view_part}
use Rattle.sheet_view.proofs.arc_view.Goals as goal

pub returns-in-Err : goal.returns-in-Err
returns-in-Err c = let h = view_refused c.args.sheet.now c.args.arc _ c.in-Err.ensures.taken_refused in record { lies_in_sheet = (refl, h.0); bytes_of_arc = h.1 }

pub returns-then-taken-earlier : goal.returns-then-taken-earlier
returns-then-taken-earlier c =
    let h = view_none c.args.sheet.now c.args.arc _ c.in-Ok.ensures.header_told c.if-taken-earlier.true in
    record { lies_in_sheet = (refl, h.0); bytes_of_arc = h.1 }

pub overflow_sub-result : goal.overflow_sub-result
overflow_sub-result c = let w = (in_order c.args.sheet.now c.args.arc c.args.sheet.ref_ptr.1 c.in-Ok.ensures.header_told c.lead_and_content.ensures.content_told c.past_numbers-from.ensures c.past_numbers-behind.ensures) in omega (arith, w.0, w.1)

pub overflow_sub-result-2 : goal.overflow_sub-result-2
overflow_sub-result-2 c = let w = (in_order c.args.sheet.now c.args.arc c.args.sheet.ref_ptr.1 c.in-Ok.ensures.header_told c.lead_and_content.ensures.content_told c.past_numbers-from.ensures c.past_numbers-behind.ensures) in omega (arith, w.0, w.1)

pub slice_bounds-result-count-2 : goal.slice_bounds-result-count-2
slice_bounds-result-count-2 c = let w = (in_order c.args.sheet.now c.args.arc c.args.sheet.ref_ptr.1 c.in-Ok.ensures.header_told c.lead_and_content.ensures.content_told c.past_numbers-from.ensures c.past_numbers-behind.ensures) in omega (arith, w.0, w.1)

pub slice_bounds-result-start-2 : goal.slice_bounds-result-start-2
slice_bounds-result-start-2 c = let w = (in_order c.args.sheet.now c.args.arc c.args.sheet.ref_ptr.1 c.in-Ok.ensures.header_told c.lead_and_content.ensures.content_told c.past_numbers-from.ensures c.past_numbers-behind.ensures) in omega (arith, w.0, w.1)

pub returns : goal.returns
returns c =
    let h = view_part c.args.sheet.now c.args.arc c.args.sheet.ref_ptr.1 c.in-Ok.ensures.header_told c.lead_and_content.ensures.content_told c.past_numbers-from.ensures c.past_numbers-behind.ensures c.if-taken-earlier.false in
    record { lies_in_sheet = (refl, h.0); bytes_of_arc = h.1 }
