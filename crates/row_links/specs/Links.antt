-- The open arcs of a graph in a list of 512 places: packed to its front, and chained by their tails in a list of 576 numbers.
use Rattle.std.specs.Prelude.{ℕ, ◌+◌, ◌-◌, ◌≤◌, ◌<◌, ◌≡◌, true, false, List, length, get_or, take, drop, set}
use Rattle.lists.specs.Lists.{Put}
use Rattle.walks.specs.declared.arc.Arc.{Arc}
use Rattle.rows.specs.Net.{Net, closed, arc_at, tail_at, head_at, tail_in, Joins, Packed}
use Rattle.row_arcs.specs.OpenArcs.{open_arcs}
use Rattle.row_spread.specs.Arcs.{Chained}

-- the first c arcs are the open ones, and they are chained
pub record Linked (N : Net) (c : ℕ) (arcs : List Arc) (chains : List ℕ) : Type 0 where
  pub long : length arcs ≡ 512
  pub room : c ≤ 512
  pub packed : Packed N (take c arcs)
  pub chained : Chained (take c arcs) chains

-- the same of the first c arcs but for the graph: they join places of a row, and are chained
pub record Shaped (c : ℕ) (arcs : List Arc) (chains : List ℕ) : Type 0 where
  pub long : length arcs ≡ 512
  pub room : c ≤ 512
  pub joins : Joins 64 (take c arcs)
  pub chained : Chained (take c arcs) chains

-- arc c, which leaves node u, put in front of the chain of u
abbrev pub put_on : List ℕ → ℕ → ℕ → List ℕ
put_on chains u c = set (set chains (64 + c) (get_or chains u 0)) u (c + 1)

-- arc c, the last one, taken off its tail's chain
abbrev pub taken_off : List Arc → List ℕ → ℕ → List ℕ
taken_off arcs chains c = set chains (tail_in arcs c) (get_or chains (64 + c) 0)

-- What packing and chaining all open arcs leaves, of which there are c: they stand over the front of the list in their order, and what is behind their
-- chains is as it was.
pub record AllLinked (N : Net) (c : ℕ) (arcs : List Arc) (chains : List ℕ) (arcs' : List Arc) (chains' : List ℕ) : Type 0 where
  pub put : Put (open_arcs N) arcs arcs' c
  pub chained : Chained (open_arcs N) chains'
  pub rest : drop (64 + c) chains' ≡ drop (64 + c) chains

-- arc l of the graph written behind c packed ones
abbrev pub packed_on : Net → ℕ → ℕ → List Arc → List Arc
packed_on N l c arcs = set arcs c (arc_at N l)

-- and put in front of its tail's chain
abbrev pub linked_on : Net → ℕ → ℕ → List ℕ → List ℕ
linked_on N l c chains = put_on chains (tail_at N l) c

-- What opening item i does where c arcs were linked: an arc to a closed node changes nothing, another goes behind the others, and a node, or an arc where
-- there is no room behind them, has all open arcs linked anew.
pub data ItemLinked (N : Net) (i c : ℕ) (arcs : List Arc) (chains : List ℕ) : List Arc → List ℕ → ℕ → Type 0 where
  left : N.nodes ≤ i → c < 512 → closed N (head_at N (i - N.nodes)) ≡ true → ItemLinked N i c arcs chains arcs chains c
  behind : N.nodes ≤ i → c < 512 → closed N (head_at N (i - N.nodes)) ≡ false
      → ItemLinked N i c arcs chains (packed_on N (i - N.nodes) c arcs) (linked_on N (i - N.nodes) c chains) (c + 1)
  anew : {arcs' : List Arc} {chains' : List ℕ} {r : ℕ} → (N.nodes ≤ i → 512 ≤ c) → AllLinked N r arcs chains arcs' chains'
      → ItemLinked N i c arcs chains arcs' chains' r
