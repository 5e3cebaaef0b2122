-- `read_page` finds the content, reads it, and adds the service minutes to the arcs where the sheet is taken. Assumes nothing.
use Rattle.std.proofs.Common.{rules, refl, sym, ap, ◌∙◌}
use native.Mathlib.Omega.{arith}
use lib.ListN.{length-take}
use Rattle.sheet_reader.specs.Answer.{answered}
use Rattle.sheet_reader.proofs.LoadedLaws.{unsaid, sizes_held, can_serve, is_served, none_served, page_loaded}
use Rattle.sheet_reader.proofs.TakenLaws.{content_taken}
use Rattle.sheet_reader.proofs.read_page.Goals as goal

pub returns-in_err-header-clause-refused : goal.returns-in_err-header-clause-refused
returns-in_err-header-clause-refused c = let stopped = unsaid c.args.sheet.now _ (sym (content_taken c.args.sheet.now c.lead_and_content-leads.ensures.lead_told c.lead_and_content-leads.ensures.content_told) ∙ c.in_err-header.ensures.refused) in search rules

pub returns-in_err-header-clause-taken_refused : goal.returns-in_err-header-clause-taken_refused
returns-in_err-header-clause-taken_refused c = let stopped = (sym (content_taken c.args.sheet.now c.lead_and_content-leads.ensures.lead_told c.lead_and_content-leads.ensures.content_told) ∙ c.in_err-header.ensures.refused) in search rules

pub returns-in_err-header-clause-arcs_in_front : goal.returns-in_err-header-clause-arcs_in_front
returns-in_err-header-clause-arcs_in_front c = none_served c.args.sheet.now _ _ _ (sym (content_taken c.args.sheet.now c.lead_and_content-leads.ensures.lead_told c.lead_and_content-leads.ensures.content_told) ∙ c.in_err-header.ensures.refused) (rw c.lead_and_content-leads.ensures.content_told at c.read_content.ensures.arcs_in_front)

pub slice_bounds-serve-end : goal.slice_bounds-serve-end
slice_bounds-serve-end c =
    let q = ap answered (sym (content_taken c.args.sheet.now c.lead_and_content-leads.ensures.lead_told c.lead_and_content-leads.ensures.content_told)) ∙ c.in_ok-header.ensures.got in
    omega (arith, (sizes_held c.args.sheet.now c.in_ok-header.header q).1)

pub slice_bounds-serve-end-2 : goal.slice_bounds-serve-end-2
slice_bounds-serve-end-2 c =
    let q = ap answered (sym (content_taken c.args.sheet.now c.lead_and_content-leads.ensures.lead_told c.lead_and_content-leads.ensures.content_told)) ∙ c.in_ok-header.ensures.got in
    simp length-take (omega (arith, (sizes_held c.args.sheet.now c.in_ok-header.header q).1))

pub slice_bounds-serve-end-3 : goal.slice_bounds-serve-end-3
slice_bounds-serve-end-3 c =
    let q = ap answered (sym (content_taken c.args.sheet.now c.lead_and_content-leads.ensures.lead_told c.lead_and_content-leads.ensures.content_told)) ∙ c.in_ok-header.ensures.got in
    omega (arith, (sizes_held c.args.sheet.now c.in_ok-header.header q).0)

pub slice_bounds-serve-end-4 : goal.slice_bounds-serve-end-4
slice_bounds-serve-end-4 c =
    let q = ap answered (sym (content_taken c.args.sheet.now c.lead_and_content-leads.ensures.lead_told c.lead_and_content-leads.ensures.content_told)) ∙ c.in_ok-header.ensures.got in
    simp length-take (omega (arith, (sizes_held c.args.sheet.now c.in_ok-header.header q).0))

pub serve-requires : goal.serve-requires
serve-requires c =
    let q = ap answered (sym (content_taken c.args.sheet.now c.lead_and_content-leads.ensures.lead_told c.lead_and_content-leads.ensures.content_told)) ∙ c.in_ok-header.ensures.got in
    can_serve c.args.sheet.now c.in_ok-header.header q _ _ _ _ (rw c.lead_and_content-leads.ensures.content_told at c.read_content.ensures.arcs_in_front) (rw (c.lead_and_content-leads.ensures.content_told, ← c.lead_and_content-leads.ensures.lead_told) at c.read_content.ensures.services_in_front)

pub returns-clause-header_told : goal.returns-clause-header_told
returns-clause-header_told c = ap answered (sym (content_taken c.args.sheet.now c.lead_and_content-leads.ensures.lead_told c.lead_and_content-leads.ensures.content_told)) ∙ c.in_ok-header.ensures.got

pub returns-clause-arcs_in_front : goal.returns-clause-arcs_in_front
returns-clause-arcs_in_front c =
    let q = ap answered (sym (content_taken c.args.sheet.now c.lead_and_content-leads.ensures.lead_told c.lead_and_content-leads.ensures.content_told)) ∙ c.in_ok-header.ensures.got in
    is_served c.args.sheet.now c.in_ok-header.header q _ _ _ _ (rw c.lead_and_content-leads.ensures.content_told at c.read_content.ensures.arcs_in_front) (rw (c.lead_and_content-leads.ensures.content_told, ← c.lead_and_content-leads.ensures.lead_told) at c.read_content.ensures.services_in_front) c.serve.ensures refl

pub returns-clause-loaded : goal.returns-clause-loaded
returns-clause-loaded c =
    let q = ap answered (sym (content_taken c.args.sheet.now c.lead_and_content-leads.ensures.lead_told c.lead_and_content-leads.ensures.content_told)) ∙ c.in_ok-header.ensures.got in
    page_loaded c.args.sheet.now _ _ _ _ _ _ c.in_ok-header.header q (is_served c.args.sheet.now c.in_ok-header.header q _ _ _ _ (rw c.lead_and_content-leads.ensures.content_told at c.read_content.ensures.arcs_in_front) (rw (c.lead_and_content-leads.ensures.content_told, ← c.lead_and_content-leads.ensures.lead_told) at c.read_content.ensures.services_in_front) c.serve.ensures refl) (rw c.lead_and_content-leads.ensures.content_told at c.read_content.ensures.marks_in_front) (rw (c.lead_and_content-leads.ensures.content_told, ← c.lead_and_content-leads.ensures.lead_told) at c.read_content.ensures.services_in_front)
