-- A sheet's bytes: what they say and mean, or the number of the first fault (document 01, 'Sheet and slip' and refusals 3 to 13; document 02, request 2.7).
-- Each number is judged as it is read; each step reads one part and hands what was read so far to the next.
use Rattle.std.specs.Prelude.{ℕ, zero, suc, ◌+◌, Bool, not, ◌&&◌, List, [], ◌∷◌, length, eqb, ltb, leb}
use Rattle.lists.specs.Lists.{pick}
use Rattle.varint.specs.Varint.{Read, got, refuse, after, read_number, number, several}
use Rattle.walks.specs.declared.arc.Arc.{Arc}
use Rattle.sheet.specs.declared.Header.{Header}
use Rattle.sheet.specs.Lent.{zeros}
use Rattle.sheet.specs.Page.{Page, sheet_on, no_service}
use Rattle.sheet.specs.Sheet.{Sheet, required}

-- What each number is judged by.
-- nodes: 2 to 64
abbrev pub is_node_count : ℕ → Bool
is_node_count x = leb 2 x && leb x 64

-- arcs: at most 512
abbrev pub is_arc_count : ℕ → Bool
is_arc_count x = leb x 512

-- a node of n: the source, an arc's tail
abbrev pub is_node : ℕ → ℕ → Bool
is_node n x = ltb x n

-- a node of n other than a: the target, an arc's head
abbrev pub is_other : ℕ → ℕ → ℕ → Bool
is_other n a x = ltb x n && not (eqb x a)

-- the limit: at most 1,000,000
abbrev pub is_limit : ℕ → Bool
is_limit x = leb x 1000000

-- an arc's minutes: at most 65,535
abbrev pub is_minutes : ℕ → Bool
is_minutes x = leb x 65535

-- a mark: open, mandatory, forbidden
abbrev pub is_mark : ℕ → Bool
is_mark x = leb x 2

-- the service minutes of a node: at most 600
abbrev pub is_service : ℕ → Bool
is_service x = leb x 600

-- the five numbers in front (5 to 8)
unfoldable pub header_limit : ℕ → ℕ → ℕ → ℕ → List ℕ → Read Header
header_limit n m s t bs = after (number 8 is_limit bs) (λ k rest. got (record { nodes = n; arcs = m; source = s; target = t; limit = k }) rest)

unfoldable pub header_target : ℕ → ℕ → ℕ → List ℕ → Read Header
header_target n m s bs = after (number 7 (is_other n s) bs) (header_limit n m s)

unfoldable pub header_source : ℕ → ℕ → List ℕ → Read Header
header_source n m bs = after (number 7 (is_node n) bs) (header_target n m)

unfoldable pub header_arcs : ℕ → List ℕ → Read Header
header_arcs n bs = after (number 6 is_arc_count bs) (header_source n)

unfoldable pub read_header : List ℕ → Read Header
read_header bs = after (number 5 is_node_count bs) header_arcs

-- an arc of a graph of n nodes: tail, head, minutes (9, 10)
unfoldable pub arc_minutes : ℕ → ℕ → List ℕ → Read Arc
arc_minutes t h bs = after (number 10 is_minutes bs) (λ w rest. got (record { tail = t; head = h; weight = w }) rest)

unfoldable pub arc_head : ℕ → ℕ → List ℕ → Read Arc
arc_head n t bs = after (number 9 (is_other n t) bs) (arc_minutes t)

unfoldable pub read_arc : ℕ → List ℕ → Read Arc
read_arc n bs = after (number 9 (is_node n) bs) (arc_head n)

-- a mark (11)
unfoldable pub read_mark : List ℕ → Read ℕ
read_mark bs = number 11 is_mark bs

-- the marks of nodes and arcs
unfoldable pub read_marks : Header → List Arc → List ℕ → Read Sheet
read_marks h xs bs =
    after (several read_mark (h.nodes + length xs) bs)
    (λ ms rest. got (record { graph = record { nodes = h.nodes; arcs = xs }; source = h.source; target = h.target; limit = h.limit; marks = ms }) rest)

-- the arcs: the leg section, which starts at the fifth number's end
unfoldable pub read_arcs : Header → List ℕ → Read Sheet
read_arcs h bs = after (several (read_arc h.nodes) h.arcs bs) (read_marks h)

-- the content of a sheet, which is all of it in the form without service minutes
unfoldable pub read_sheet : List ℕ → Read Sheet
read_sheet bs = after (read_header bs) read_arcs

-- the bytes after a number, and after k numbers
unfoldable pub rest_of : Read ℕ → List ℕ
rest_of (got x bs) = bs
rest_of (refuse e) = []

unfoldable pub past : ℕ → List ℕ → List ℕ
past zero bs = bs
past (suc k) bs = past k (rest_of (read_number bs))

-- In the form with service minutes the number 1 stands before the content. How many numbers do: 1 or 0,
unfoldable pub lead_of : Read ℕ → ℕ
lead_of (got x rest) = pick (eqb x 1) 1 0
lead_of (refuse e) = 0

unfoldable pub lead : List ℕ → ℕ
lead bs = lead_of (read_number bs)

-- and the bytes from the content on
unfoldable pub content : List ℕ → List ℕ
content bs = past (lead bs) bs

-- the service minutes of a node (11)
unfoldable pub read_service : List ℕ → Read ℕ
read_service bs = number 11 is_service bs

-- a sheet has one form: where all service minutes are 0, it is the one without them (11)
unfoldable pub some_service : Sheet → List ℕ → List ℕ → Read Page
some_service S services bs = pick (no_service services) (refuse 11) (got (record { says = S; services = services }) bs)

-- the service minutes of each node: none in the one form, behind the content in the other
unfoldable pub read_services : ℕ → Sheet → List ℕ → Read Page
read_services zero S bs = got (record { says = S; services = zeros S.graph.nodes }) bs
read_services (suc k) S bs = after (several read_service S.graph.nodes bs) (some_service S)

unfoldable pub read_page : List ℕ → Read Page
read_page bs = after (read_sheet (content bs)) (read_services (lead bs))

-- no bytes may remain (12), and at most eight items may be required (13)
unfoldable pub complete : Page → List ℕ → Read Page
complete P (b ∷ bs) = refuse 12
complete P [] = pick (leb (length (required (sheet_on P))) 8) (got P []) (refuse 13)

-- what the sheet says, or the refusal: 3 to 13
unfoldable pub page : List ℕ → Read Page
page bs = after (read_page bs) complete

unfoldable pub meant : Page → List ℕ → Read Sheet
meant P rest = got (sheet_on P) rest

-- what it means, or the refusal; document 01, 'Reasons', accepts the sheets that are taken
unfoldable pub taken : List ℕ → Read Sheet
taken bs = after (page bs) meant
