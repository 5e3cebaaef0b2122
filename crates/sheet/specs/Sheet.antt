-- A sheet as it is read: graph, source, target (document 01: start, finish), limit and marks.
use Rattle.std.specs.Prelude.{ℕ, ◌+◌, ◌<◌, ◌≡◌, ◌⊎◌, Bool, true, false, not, ◌&&◌, ◌||◌, List, [], ◌∷◌, get_or, length, eqb, ltb}
use Rattle.lists.specs.Lists.{keep, span}
use Rattle.walks.specs.declared.arc.Arc.{Arc}
use Rattle.walks.specs.Graph.{Graph, tail_of, head_of, arc_item, item_count, closed_in}
use Rattle.walks.specs.Flat.{graph_of}
use Rattle.sheet.specs.declared.Header.{Header}

pub record Sheet : Type 0 where
  pub graph : Graph
  pub source : ℕ
  pub target : ℕ
  pub limit : ℕ
  pub marks : List ℕ

-- its five numbers in front
unfoldable pub header_of : Sheet → Header
header_of S =
    record { nodes = S.graph.nodes; arcs = length S.graph.arcs; source = S.source; target = S.target; limit = S.limit }

-- the sheet that the five numbers, the arcs and the marks make
abbrev pub sheet_of : Header → List Arc → List ℕ → Sheet
sheet_of h arcs marks =
    record { graph = graph_of h.nodes arcs; source = h.source; target = h.target; limit = h.limit; marks = marks }

-- the lists have the lengths that the header says
abbrev pub Sized : Header → List Arc → List ℕ → Type 0
Sized h arcs marks = (length arcs ≡ h.arcs) × (length marks ≡ h.nodes + h.arcs)

-- an item's mark: open 0, mandatory (must) 1, forbidden (shut) 2
unfoldable pub mark_of : Sheet → ℕ → ℕ
mark_of S i = get_or S.marks i 0

unfoldable pub is_open : Sheet → ℕ → Bool
is_open S i = eqb (mark_of S i) 0

unfoldable pub is_mandatory : Sheet → ℕ → Bool
is_mandatory S i = eqb (mark_of S i) 1

unfoldable pub is_forbidden : Sheet → ℕ → Bool
is_forbidden S = closed_in S.marks

-- the numbers of all items, nodes and arcs, ascending
unfoldable pub all_items : Graph → List ℕ
all_items G = span (item_count G) 0

unfoldable pub all_arcs : Graph → List ℕ
all_arcs G = span (length G.arcs) 0

-- the node is an end of a mandatory arc of the list
unfoldable pub ends_mandatory : Sheet → ℕ → List ℕ → Bool
ends_mandatory S p [] = false
ends_mandatory S p (l ∷ ls) =
    (is_mandatory S (arc_item S.graph l) && (eqb (tail_of S.graph l) p || eqb (head_of S.graph l) p)) || ends_mandatory S p ls

-- what every route meets whatever else is marked: the source, the target, and the ends of mandatory arcs
pub data Forced (S : Sheet) (p : ℕ) : Type 0 where
  is_source : p ≡ S.source → Forced S p
  is_target : p ≡ S.target → Forced S p
  ends_arc : (l : ℕ) → l < length S.graph.arcs → is_mandatory S (arc_item S.graph l) ≡ true
      → (tail_of S.graph l ≡ p) ⊎ (head_of S.graph l ≡ p) → Forced S p

-- the item is a node, and source, target or an end of a mandatory arc
unfoldable pub is_forced : Sheet → ℕ → Bool
is_forced S i =
    ltb i S.graph.nodes && (eqb i S.source || (eqb i S.target || ends_mandatory S i (all_arcs S.graph)))

-- a counted thing: a mandatory arc, or a mandatory node that is neither source, target nor an end of a mandatory arc
unfoldable pub is_required : Sheet → ℕ → Bool
is_required S i = is_mandatory S i && not (is_forced S i)

-- the counted things, ascending
unfoldable pub required : Sheet → List ℕ
required S = keep (is_required S) (all_items S.graph)
