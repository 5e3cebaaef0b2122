-- What holds of a sheet that was read (document 01, 'Map, walk, round': how many places and legs, which minutes, marks and limit; document 02, request 2.7).
use Rattle.std.specs.Prelude.{ℕ, ◌≤◌, ◌<◌, ◌≡◌, List, length}
use Rattle.std.specs.List.{AllByRecursion}
use Rattle.walks.specs.declared.arc.Arc.{Arc}
use Rattle.walks.specs.Graph.{item_count}
use Rattle.sheet.specs.Page.{Page, sheet_on}
use Rattle.sheet.specs.Sheet.{Sheet}

-- each entry of the list has the property
abbrev pub All : {A : Type 0} → (A → Type 0) → List A → Type 0
All P xs = AllByRecursion P xs

-- an arc of a graph of n nodes, of weight c at most
pub record ArcUpTo (c n : ℕ) (x : Arc) : Type 0 where
  pub tail : x.tail < n
  pub head : x.head < n
  pub loopless : x.head ≡ x.tail → ⊥
  pub weight : x.weight ≤ c

-- a sheet of the sizes that are read, its arcs of weight c at most
pub record GoodUpTo (c : ℕ) (S : Sheet) : Type 0 where
  pub low : 2 ≤ S.graph.nodes
  pub nodes : S.graph.nodes ≤ 64
  pub arcs : length S.graph.arcs ≤ 512
  pub source : S.source < S.graph.nodes
  pub target : S.target < S.graph.nodes
  pub apart : S.target ≡ S.source → ⊥
  pub limit : S.limit ≤ 1000000
  pub arc : All (ArcUpTo c S.graph.nodes) S.graph.arcs
  pub size : length S.marks ≡ item_count S.graph
  pub mark : All (λ x. x ≤ 2) S.marks

-- a sheet that was read, as it is meant: an arc's weight is at most 65,535 minutes and 600 of service
abbrev pub Good : Sheet → Type 0
Good S = GoodUpTo 66135 S

-- and as it is written
pub record GoodPage (P : Page) : Type 0 where
  pub says : GoodUpTo 65535 P.says
  pub means : Good (sheet_on P)
  pub count : length P.services ≡ P.says.graph.nodes
  pub service : All (λ x. x ≤ 600) P.services
