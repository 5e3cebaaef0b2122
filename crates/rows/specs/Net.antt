-- A graph and its marks as the code has them, and its open arcs in one list.
use Rattle.std.specs.Prelude.{◌≡◌, List, Bool, false, ℕ, ◌+◌, ◌≤◌, ◌<◌, length, get_or}
use Rattle.walks.specs.Flat.{graph_of}
use Rattle.walks.specs.declared.arc.Arc.{Arc}
use Rattle.walks.specs.Graph.{Graph, no_arc, closed_in}

-- the arcs, and a mark for each item
pub record Net : Type 0 where
  pub nodes : ℕ
  pub arcs : List Arc
  pub marks : List ℕ

abbrev pub net_of : ℕ → List Arc → List ℕ → Net
net_of n xs ms = record { nodes = n; arcs = xs; marks = ms }

abbrev pub graph : Net → Graph
graph N = graph_of N.nodes N.arcs

abbrev pub closed : Net → ℕ → Bool
closed N = closed_in N.marks

abbrev pub arc_count : List Arc → ℕ
arc_count xs = length xs

abbrev pub tail_in : List Arc → ℕ → ℕ
tail_in xs i = (get_or xs i no_arc).tail

abbrev pub head_in : List Arc → ℕ → ℕ
head_in xs i = (get_or xs i no_arc).head

abbrev pub weight_in : List Arc → ℕ → ℕ
weight_in xs i = (get_or xs i no_arc).weight

abbrev pub count : Net → ℕ
count N = arc_count N.arcs

abbrev pub arc_at : Net → ℕ → Arc
arc_at N i = get_or N.arcs i no_arc

abbrev pub tail_at : Net → ℕ → ℕ
tail_at N i = tail_in N.arcs i

abbrev pub head_at : Net → ℕ → ℕ
head_at N i = head_in N.arcs i

abbrev pub weight_at : Net → ℕ → ℕ
weight_at N i = weight_in N.arcs i

-- at most 64 nodes, arcs between nodes, a mark for each item
pub record Proper (N : Net) : Type 0 where
  pub few : N.nodes ≤ 64
  pub marked : N.nodes + count N ≤ length N.marks
  pub tails : (i : ℕ) → i < count N → tail_at N i < N.nodes
  pub heads : (i : ℕ) → i < count N → head_at N i < N.nodes

-- the listed arcs join nodes below n
abbrev pub Joins : ℕ → List Arc → Type 0
Joins n xs = (i : ℕ) → i < arc_count xs → (tail_in xs i < n) × (head_in xs i < n)

-- arc i and its head are open
abbrev pub Open : Net → ℕ → Type 0
Open N i = (closed N (N.nodes + i) ≡ false) × (closed N (head_at N i) ≡ false)

-- arc j of the list has the numbers of arc i
pub record SameArc (N : Net) (i : ℕ) (xs : List Arc) (j : ℕ) : Type 0 where
  pub tail : tail_in xs j ≡ tail_at N i
  pub head : head_in xs j ≡ head_at N i
  pub weight : weight_in xs j ≡ weight_at N i

-- the first c arcs of the list are the open ones among the first n arcs, each once or more and in any order
pub record PackedTo (N : Net) (n : ℕ) (xs : List Arc) (c : ℕ) : Type 0 where
  pub all : (i : ℕ) → i < n → Open N i → (j : ℕ) × (j < c) × SameArc N i xs j
  pub only : (j : ℕ) → j < c → (i : ℕ) × (i < n) × Open N i × SameArc N i xs j

-- the arcs of the list are the open ones
abbrev pub Packed : Net → List Arc → Type 0
Packed N xs = PackedTo N (count N) xs (arc_count xs)
