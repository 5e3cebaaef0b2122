-- What the tool prints for the sheet B of document 01, from bytes to bytes, by computation. Assumes nothing.
use mathlib.Core.Path.{◌≡◌, refl}
use mathlib.Core.List.{[], ◌∷◌}
use Rattle.reason_list.specs.Reasons.{greedy, reasons}
use Rattle.lists.specs.Lists.{member, keep, add, span}
use Rattle.sheet.specs.Answer.{answer_of}
use Rattle.pass_rules.specs.Pass.{pass_on}
use Rattle.pass_rules.specs.Verdict.{fits_sheet, unmet, verdict_from, verdict, is_pruned, new_mark, new_marks, reasons_for, slip_for, pass_slip}
use Rattle.sheet.specs.Reader.{arc_minutes, arc_head, read_arc, read_mark, read_marks, read_arcs, header_limit, header_target, header_source, header_arcs, read_header, read_sheet, rest_of, past, lead_of, lead, content, read_service, some_service, read_services, read_page, complete, page, meant, taken}
use Rattle.sheet.specs.Lent.{zeros}
use Rattle.sheet.specs.Page.{service_of, served_arc, served, sheet_on, no_service}
use Rattle.sheet.specs.Sheet.{mark_of, is_open, is_mandatory, is_forbidden, all_items, all_arcs, ends_mandatory, is_forced, is_required, required}
use Rattle.sheet.specs.Slip.{slip_numbers, slip_bytes, marks_bytes}
use Rattle.varint.specs.Varint.{after, last_group, above, read_groups, read_number, judged, number, several, write_groups, write_number, write_numbers}
use Rattle.walks.specs.Graph.{tail_of, head_of, weight_of, arc_item, chain, items, len, clear, meets, fit, begin, onward, chains, against, least_of, least, fits}
use Rattle.walks.specs.Lengths.{lesser, within}
use Rattle.reason_rules.specs.Reason.{prunes, reason_in, reason_on}
use Rattle.reason_list.specs.Reasons.{but}
use Rattle.reason_rules.proofs.Star.{sheet_b}
use Rattle.std.specs.Fmt.{digits}
use Rattle.text_lines.specs.Lines.{difference_line}
use Rattle.cost_rules.specs.Cost.{length_through, none_line, slack_line, length_line, length_opened, opened_line, cost_lines, cost_in, cost_for, cost_on, text_of, cost_text}

-- Item 1 with limit 12 and item 4 forbidden: `none`, `8`. Item 1 with limit 14 and items 5 and 8 forbidden: `none`, `8`, `14`. Item 2 with limit 8 and item 6
-- forbidden: `-6`; the closure counts though it is not listed, for without it the line would be `-4`, as it is for B itself.
pub cost_of_b :
    (cost_text (1 ∷ sheet_b 12 (0 ∷ 0 ∷ 0 ∷ 0 ∷ 2 ∷ 0 ∷ 0 ∷ 0 ∷ 0 ∷ [])) ≡ 110 ∷ 111 ∷ 110 ∷ 101 ∷ 10 ∷ 56 ∷ 10 ∷ [])
    × (cost_text (1 ∷ sheet_b 14 (0 ∷ 0 ∷ 0 ∷ 0 ∷ 0 ∷ 2 ∷ 0 ∷ 0 ∷ 2 ∷ [])) ≡ 110 ∷ 111 ∷ 110 ∷ 101 ∷ 10 ∷ 56 ∷ 10 ∷ 49 ∷ 52 ∷ 10 ∷ [])
    × (cost_text (2 ∷ sheet_b 8 (0 ∷ 0 ∷ 0 ∷ 0 ∷ 0 ∷ 0 ∷ 2 ∷ 0 ∷ 0 ∷ [])) ≡ 45 ∷ 54 ∷ 10 ∷ [])
    × (cost_text (2 ∷ sheet_b 8 (0 ∷ 0 ∷ 0 ∷ 0 ∷ 0 ∷ 0 ∷ 0 ∷ 0 ∷ 0 ∷ [])) ≡ 45 ∷ 52 ∷ 10 ∷ [])
unfolding sheet_b member keep add span after last_group above read_groups read_number judged number several write_groups write_number write_numbers lesser within tail_of head_of weight_of arc_item chain items len clear meets fit begin onward chains against least_of least fits mark_of is_open is_mandatory is_forbidden all_items all_arcs ends_mandatory is_forced is_required required arc_minutes arc_head read_arc read_mark read_marks read_arcs header_limit header_target header_source header_arcs read_header read_sheet rest_of past lead_of lead content service_of served_arc served sheet_on no_service read_service some_service read_services read_page complete page meant taken zeros slip_numbers slip_bytes marks_bytes greedy reasons fits_sheet unmet verdict_from verdict is_pruned new_mark new_marks reasons_for slip_for pass_slip answer_of pass_on prunes reason_in reason_on but digits difference_line length_through none_line slack_line length_line length_opened opened_line cost_lines cost_in cost_for cost_on text_of cost_text
cost_of_b = (refl, refl, refl, refl)
