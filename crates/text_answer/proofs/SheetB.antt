-- What the program prints for the sheet B of document 01: `verdict 0` and `struck 2 6 7 8`, by computation. Assumes nothing.
use Prim.Native.Nat.{ℕ}
use mathlib.Core.Path.{◌≡◌, refl}
use mathlib.Core.List.{List, [], ◌∷◌, ◌++◌}
use Rattle.reason_list.specs.Reasons.{greedy, reasons}
use Rattle.lists.specs.Lists.{member, keep, add, span}
use Rattle.sheet.specs.Answer.{answer_of}
use Rattle.pass_rules.specs.Pass.{pass_on}
use Rattle.pass_rules.specs.Verdict.{fits_sheet, unmet, verdict_from, verdict, is_pruned, new_mark, new_marks, reasons_for, slip_for, pass_slip}
use Rattle.sheet.specs.Reader.{arc_minutes, arc_head, read_arc, read_mark, read_marks, read_arcs, header_limit, header_target, header_source, header_arcs, read_header, read_sheet, rest_of, past, lead_of, lead, content, read_service, some_service, read_services, read_page, complete, page, meant, taken}
use Rattle.sheet.specs.Lent.{zeros}
use Rattle.sheet.specs.Page.{service_of, served_arc, served, sheet_on, no_service}
use Rattle.sheet.specs.Sheet.{mark_of, is_open, is_mandatory, is_forbidden, all_items, all_arcs, ends_mandatory, is_forced, is_required, required}
use Rattle.sheet.specs.Slip.{slip_numbers, slip_bytes, marks_bytes}
use Rattle.varint.specs.Varint.{after, last_group, above, read_groups, read_number, judged, number, several, write_groups, write_number, write_numbers}
use Rattle.walks.specs.Graph.{tail_of, head_of, weight_of, arc_item, chain, items, len, clear, meets, fit, begin, onward, chains, against, least_of, least, fits}
use Rattle.walks.specs.Lengths.{lesser, within}
use Rattle.std.specs.Fmt.{digits}
use Rattle.text_answer.specs.Text.{verdict_word, struck_word, newly_forbidden, stands_text, marks_of, slip_text, text}

pub sheet_b : List ℕ
sheet_b =
    0x04 ∷ 0x05 ∷ 0x00 ∷ 0x03 ∷ 0x08 ∷ 0x00 ∷ 0x01 ∷ 0x04 ∷ 0x01 ∷ 0x03 ∷ 0x04 ∷ 0x00 ∷ 0x02 ∷ 0x03 ∷ 0x02 ∷ 0x03 ∷ 0x09 ∷ 0x01 ∷ 0x02 ∷ 0x01 ∷ 0x00 ∷ 0x00 ∷ 0x00 ∷ 0x00 ∷ 0x00 ∷ 0x00 ∷ 0x00 ∷ 0x00 ∷ 0x00 ∷ []

-- a space and a digit are 32 and 48 and more; each line ends with 10
pub text_of_b : text sheet_b (pass_on sheet_b) ≡ (verdict_word ++ (32 ∷ 48 ∷ 10 ∷ [])) ++ (struck_word ++ (32 ∷ 50 ∷ 32 ∷ 54 ∷ 32 ∷ 55 ∷ 32 ∷ 56 ∷ 10 ∷ []))
unfolding sheet_b member keep add span after last_group above read_groups read_number judged number several write_groups write_number write_numbers lesser within tail_of head_of weight_of arc_item chain items len clear meets fit begin onward chains against least_of least fits mark_of is_open is_mandatory is_forbidden all_items all_arcs ends_mandatory is_forced is_required required arc_minutes arc_head read_arc read_mark read_marks read_arcs header_limit header_target header_source header_arcs read_header read_sheet rest_of past lead_of lead content service_of served_arc served sheet_on no_service read_service some_service read_services read_page complete page meant taken zeros slip_numbers slip_bytes marks_bytes greedy reasons fits_sheet unmet verdict_from verdict is_pruned new_mark new_marks reasons_for slip_for pass_slip answer_of pass_on digits newly_forbidden stands_text marks_of slip_text text
text_of_b = refl
