-- What the reader's answer stands for, and what a read leaves in the arrays that it is lent.
use Rattle.std.specs.Prelude.{ℕ, ◌+◌, List, Result, Ok, Err}
use Rattle.varint.specs.Varint.{Read, got, refuse, after, several}
use Rattle.walks.specs.declared.arc.Arc.{Arc}
use Rattle.sheet.specs.Sheet.{Sheet, header_of}
use Rattle.sheet.specs.Reader.{read_arc, read_mark, read_header, read_arcs, read_services, complete, meant}
use Rattle.sheet.specs.declared.Header.{Header}
use Rattle.numbers.specs.Begun.{ahead, begun}
use Rattle.sheet_services.specs.Services.{services_in}

-- the whole sheet: its five numbers, or the refusal
unfoldable pub answered : Read Sheet → Result Header ℕ
answered (got S rest) = Ok (header_of S)
answered (refuse e) = Err e

-- what is read behind a header, and all of a content, where k numbers stand before it
unfoldable pub read_behind : ℕ → Header → List ℕ → Read Sheet
read_behind k h bs = after (after (after (read_arcs h bs) (read_services k)) complete) meant

unfoldable pub read_content : ℕ → List ℕ → Read Sheet
read_content k cs = after (read_header cs) (read_behind k)

-- the arcs, the marks and the service minutes that were read before the first fault: these a read leaves over the fronts of the arrays; all of them where
-- there was none
unfoldable pub arcs_behind : Header → List ℕ → List Arc
arcs_behind h bs = begun (read_arc h.nodes) h.arcs bs

unfoldable pub marks_behind : Header → List ℕ → List ℕ
marks_behind h bs = ahead (several (read_arc h.nodes) h.arcs bs) (λ xs rest. begun read_mark (h.nodes + h.arcs) rest)

-- the sheet that these arcs and marks make
abbrev pub sheet_behind : Header → List ℕ → Sheet
sheet_behind h bs =
    record { graph = record { nodes = h.nodes; arcs = arcs_behind h bs }; source = h.source; target = h.target; limit = h.limit; marks = marks_behind h bs }

unfoldable pub services_behind : ℕ → Header → List ℕ → List ℕ
services_behind k h bs = ahead (read_arcs h bs) (λ S rest. services_in k h.nodes rest)

unfoldable pub arcs_begun : List ℕ → List Arc
arcs_begun cs = ahead (read_header cs) arcs_behind

unfoldable pub marks_begun : List ℕ → List ℕ
marks_begun cs = ahead (read_header cs) marks_behind

unfoldable pub services_begun : ℕ → List ℕ → List ℕ
services_begun k cs = ahead (read_header cs) (services_behind k)

-- the arcs that a read leaves: with their weights where the sheet was taken, and those that were read before the fault, with their minutes, where not
unfoldable pub arcs_left : Read Sheet → List Arc → List Arc
arcs_left (got S rest) xs = S.graph.arcs
arcs_left (refuse e) xs = xs
