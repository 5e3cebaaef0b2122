-- Writing a sheet: what is wrong with the numbers of a draft, and what a call that writes them as a sheet answers. Each number is judged by the test of
-- the reader, in the order of the sheet (document 01, refusals 5 to 13; document 02, request 2.7).
use Rattle.std.specs.Prelude.{ℕ, zero, suc, ◌+◌, ◌*◌, Bool, ◌&&◌, List, [], ◌∷◌, length, eqb, leb}
use Rattle.lists.specs.Lists.{pick}
use Rattle.sheet.specs.declared.Header.{Header}
use Rattle.sheet.specs.Sheet.{required}
use Rattle.sheet.specs.Reader.{is_node_count, is_arc_count, is_node, is_other, is_limit, is_minutes, is_mark, is_service}
use Rattle.sheet.specs.Draft.{Draft, draft_sheet, draft_page, page_bytes}
use Rattle.sheet.specs.Answer.{Answer, refused, Wrote, wrote, fitted}

-- Faults are numbers, 0 where there is none: e where the test fails, and the first of two.
unfoldable pub fault : ℕ → Bool → ℕ
fault e ok = pick ok 0 e

unfoldable pub first_of : ℕ → ℕ → ℕ
first_of zero b = b
first_of (suc a) b = suc a

-- the five numbers in front (5 to 8)
unfoldable pub header_fault : Header → ℕ
header_fault h =
    first_of (fault 5 (is_node_count h.nodes))
    (first_of (fault 6 (is_arc_count h.arcs))
    (first_of (fault 7 (is_node h.nodes h.source))
    (first_of (fault 7 (is_other h.nodes h.source h.target)) (fault 8 (is_limit h.limit)))))

-- a list of another length than the header says (3)
unfoldable pub size_fault : Draft → ℕ
size_fault d =
    fault 3
    (eqb (length d.arcs) (3 * d.header.arcs)
    && (eqb (length d.marks) (d.header.nodes + d.header.arcs) && eqb (length d.services) d.header.nodes))

-- an arc of a graph of n nodes: tail, head, minutes (9, 10)
unfoldable pub arc_fault : ℕ → ℕ → ℕ → ℕ → ℕ
arc_fault n t h w = first_of (fault 9 (is_node n t)) (first_of (fault 9 (is_other n t h)) (fault 10 (is_minutes w)))

-- arc by arc
unfoldable pub arcs_fault : ℕ → List ℕ → ℕ
arcs_fault n [] = 0
arcs_fault n (t ∷ []) = 0
arcs_fault n (t ∷ h ∷ []) = 0
arcs_fault n (t ∷ h ∷ w ∷ xs) = first_of (arc_fault n t h w) (arcs_fault n xs)

-- number by number (11): the marks, and the service minutes
unfoldable pub each_fault : (ℕ → Bool) → List ℕ → ℕ
each_fault ok [] = 0
each_fault ok (x ∷ xs) = first_of (fault 11 (ok x)) (each_fault ok xs)

abbrev pub marks_fault : List ℕ → ℕ
marks_fault xs = each_fault is_mark xs

abbrev pub services_fault : List ℕ → ℕ
services_fault xs = each_fault is_service xs

-- more than eight required items (13)
unfoldable pub required_fault : Draft → ℕ
required_fault d = fault 13 (leb (length (required (draft_sheet d))) 8)

unfoldable pub draft_fault : Draft → ℕ
draft_fault d =
    first_of (header_fault d.header)
    (first_of (size_fault d)
    (first_of (arcs_fault d.header.nodes d.arcs)
    (first_of (marks_fault d.marks) (first_of (services_fault d.services) (required_fault d)))))

-- the sheet, where nothing is wrong and the slice has room for it (19)
unfoldable pub write_on : Draft → List ℕ → Answer
write_on d out = pick (eqb (draft_fault d) 0) (fitted (page_bytes (draft_page d)) out) (refused (draft_fault d))

-- the writer, for every draft and slice
unfoldable pub sheet_written : Draft → List ℕ → Wrote
sheet_written d out = wrote (write_on d out) out
