-- The table of the lines marked with a star in document 01, 'The sheet B and what it gives': from a sheet's bytes to the slip's bytes, by computation.
-- Assumes nothing.
use Prim.Native.Nat.{ℕ}
use mathlib.Core.Path.{◌≡◌, refl}
use mathlib.Core.List.{List, [], ◌∷◌}
use Rattle.reason_list.specs.Reasons.{greedy, reasons}
use Rattle.lists.specs.Lists.{member, every, keep, add, span}
use Rattle.sheet.specs.Answer.{finished, refused, answer_of}
use Rattle.pass_rules.specs.Pass.{pass_on}
use Rattle.pass_rules.specs.Verdict.{fits_sheet, unmet, verdict_from, verdict, is_pruned, new_mark, new_marks, reasons_for, slip_for, pass_slip}
use Rattle.sheet.specs.Reader.{arc_minutes, arc_head, read_arc, read_mark, read_marks, read_arcs, header_limit, header_target, header_source, header_arcs, read_header, read_sheet, rest_of, past, lead_of, lead, content, read_service, some_service, read_services, read_page, complete, page, meant, taken}
use Rattle.sheet.specs.Lent.{zeros}
use Rattle.sheet.specs.Page.{service_of, served_arc, served, sheet_on, no_service}
use Rattle.sheet.specs.Sheet.{mark_of, is_open, is_mandatory, is_forbidden, all_items, all_arcs, ends_mandatory, is_forced, is_required, required}
use Rattle.sheet.specs.Slip.{slip_numbers, slip_bytes, marks_bytes}
use Rattle.varint.specs.Varint.{after, last_group, above, read_groups, read_number, judged, number, several, write_groups, write_number, write_numbers}
use Rattle.walks.specs.Graph.{tail_of, head_of, weight_of, arc_item, chain, items, len, clear, meets, fit, begin, onward, chains, against, least_of, least, fits}
use Rattle.walks.specs.Lengths.{lesser, within}
use Rattle.reason_rules.specs.Reason.{prunes, reason_in, reason_on}

-- the sheet B with a limit and the marks of its four nodes and five arcs; behind a 1, with the service minutes of its four nodes behind the marks
unfoldable pub sheet_b : ℕ → List ℕ → List ℕ
sheet_b k marks =
    0x04 ∷ 0x05 ∷ 0x00 ∷ 0x03 ∷ k ∷ 0x00 ∷ 0x01 ∷ 0x04 ∷ 0x01 ∷ 0x03 ∷ 0x04 ∷ 0x00 ∷ 0x02 ∷ 0x03 ∷ 0x02 ∷ 0x03 ∷ 0x09 ∷ 0x01 ∷ 0x02 ∷ 0x01 ∷ marks

-- In order: B: limit 8, all open; B, reason for item 2; limit 7; node 2 mandatory; limit 12, item 4 forbidden; the same, reason for item 1; limit 13, nodes 1 and 2 mandatory; limit 14, nodes 1 and 2 mandatory; the same, item 8 forbidden; limit 8, item 1 forbidden; items 1 and 5 forbidden; limit 13, item 8 mandatory; and since request 2.3: limit 14, items 1 and 6 mandatory; since request 2.7, with service minutes: limit 8, two minutes at node 1; the same, limit 10; limit 8, no minutes anywhere.
pub star :
    (pass_on (sheet_b 8 (0 ∷ 0 ∷ 0 ∷ 0 ∷ 0 ∷ 0 ∷ 0 ∷ 0 ∷ 0 ∷ [])) ≡ finished (0x00 ∷ 0x01 ∷ 0x00 ∷ 0x02 ∷ 0x01 ∷ 0x00 ∷ 0x00 ∷ 0x02 ∷ 0x02 ∷ 0x02 ∷ []))
    × (reason_on (sheet_b 8 (0 ∷ 0 ∷ 0 ∷ 0 ∷ 0 ∷ 0 ∷ 0 ∷ 0 ∷ 0 ∷ [])) 2 ≡ finished (0x04 ∷ 0x01 ∷ 0x02 ∷ 0x00 ∷ []))
    × (pass_on (sheet_b 7 (0 ∷ 0 ∷ 0 ∷ 0 ∷ 0 ∷ 0 ∷ 0 ∷ 0 ∷ 0 ∷ [])) ≡ finished (0x01 ∷ 0x00 ∷ 0x00 ∷ []))
    × (pass_on (sheet_b 8 (0 ∷ 0 ∷ 1 ∷ 0 ∷ 0 ∷ 0 ∷ 0 ∷ 0 ∷ 0 ∷ [])) ≡ finished (0x02 ∷ 0x01 ∷ 0x02 ∷ 0x00 ∷ []))
    × (pass_on (sheet_b 12 (0 ∷ 0 ∷ 0 ∷ 0 ∷ 2 ∷ 0 ∷ 0 ∷ 0 ∷ 0 ∷ [])) ≡ finished (0x00 ∷ 0x01 ∷ 0x02 ∷ 0x00 ∷ 0x01 ∷ 0x02 ∷ 0x02 ∷ 0x00 ∷ 0x00 ∷ 0x02 ∷ []))
    × (reason_on (sheet_b 12 (0 ∷ 0 ∷ 0 ∷ 0 ∷ 2 ∷ 0 ∷ 0 ∷ 0 ∷ 0 ∷ [])) 1 ≡ finished (0x04 ∷ 0x01 ∷ 0x01 ∷ 0x01 ∷ 0x04 ∷ []))
    × (pass_on (sheet_b 13 (0 ∷ 1 ∷ 1 ∷ 0 ∷ 0 ∷ 0 ∷ 0 ∷ 0 ∷ 0 ∷ [])) ≡ finished (0x03 ∷ 0x02 ∷ 0x01 ∷ 0x02 ∷ 0x00 ∷ []))
    × (pass_on (sheet_b 14 (0 ∷ 1 ∷ 1 ∷ 0 ∷ 0 ∷ 0 ∷ 0 ∷ 0 ∷ 0 ∷ [])) ≡ finished (0x00 ∷ 0x01 ∷ 0x01 ∷ 0x01 ∷ 0x01 ∷ 0x00 ∷ 0x00 ∷ 0x00 ∷ 0x00 ∷ 0x00 ∷ []))
    × (pass_on (sheet_b 14 (0 ∷ 1 ∷ 1 ∷ 0 ∷ 0 ∷ 0 ∷ 0 ∷ 0 ∷ 2 ∷ [])) ≡ finished (0x03 ∷ 0x02 ∷ 0x01 ∷ 0x02 ∷ 0x01 ∷ 0x08 ∷ []))
    × (pass_on (sheet_b 8 (0 ∷ 2 ∷ 0 ∷ 0 ∷ 0 ∷ 0 ∷ 0 ∷ 0 ∷ 0 ∷ [])) ≡ finished (0x01 ∷ 0x00 ∷ 0x01 ∷ 0x01 ∷ []))
    × (pass_on (sheet_b 8 (0 ∷ 2 ∷ 0 ∷ 0 ∷ 0 ∷ 2 ∷ 0 ∷ 0 ∷ 0 ∷ [])) ≡ finished (0x01 ∷ 0x00 ∷ 0x01 ∷ 0x05 ∷ []))
    × (pass_on (sheet_b 13 (0 ∷ 0 ∷ 0 ∷ 0 ∷ 0 ∷ 0 ∷ 0 ∷ 0 ∷ 1 ∷ [])) ≡ finished (0x02 ∷ 0x01 ∷ 0x08 ∷ 0x00 ∷ []))
    × (pass_on (sheet_b 14 (0 ∷ 1 ∷ 0 ∷ 0 ∷ 0 ∷ 0 ∷ 1 ∷ 0 ∷ 0 ∷ [])) ≡ finished (0x03 ∷ 0x02 ∷ 0x01 ∷ 0x06 ∷ 0x00 ∷ []))
    × (pass_on (0x01 ∷ sheet_b 8 (0 ∷ 0 ∷ 0 ∷ 0 ∷ 0 ∷ 0 ∷ 0 ∷ 0 ∷ 0 ∷ 0 ∷ 2 ∷ 0 ∷ 0 ∷ [])) ≡ finished (0x01 ∷ 0x00 ∷ 0x00 ∷ []))
    × (pass_on (0x01 ∷ sheet_b 10 (0 ∷ 0 ∷ 0 ∷ 0 ∷ 0 ∷ 0 ∷ 0 ∷ 0 ∷ 0 ∷ 0 ∷ 2 ∷ 0 ∷ 0 ∷ []))
    ≡ finished (0x00 ∷ 0x01 ∷ 0x00 ∷ 0x02 ∷ 0x01 ∷ 0x00 ∷ 0x00 ∷ 0x02 ∷ 0x02 ∷ 0x02 ∷ []))
    × (pass_on (0x01 ∷ sheet_b 8 (0 ∷ 0 ∷ 0 ∷ 0 ∷ 0 ∷ 0 ∷ 0 ∷ 0 ∷ 0 ∷ 0 ∷ 0 ∷ 0 ∷ 0 ∷ [])) ≡ refused 11)
unfolding sheet_b member keep add span after last_group above read_groups read_number judged number several write_groups write_number write_numbers lesser within tail_of head_of weight_of arc_item chain items len clear meets fit begin onward chains against least_of least fits mark_of is_open is_mandatory is_forbidden all_items all_arcs ends_mandatory is_forced is_required required arc_minutes arc_head read_arc read_mark read_marks read_arcs header_limit header_target header_source header_arcs read_header read_sheet rest_of past lead_of lead content service_of served_arc served sheet_on no_service read_service some_service read_services read_page complete page meant taken zeros slip_numbers slip_bytes marks_bytes greedy reasons fits_sheet unmet verdict_from verdict is_pruned new_mark new_marks reasons_for slip_for pass_slip answer_of pass_on prunes reason_in reason_on
star = (refl, refl, refl, refl, refl, refl, refl, refl, refl, refl, refl, refl, refl, refl, refl, refl)
