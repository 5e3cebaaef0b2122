-- A sheet as the code has it.
use Rattle.std.specs.Prelude.{ℕ, ◌≤◌, ◌<◌, ◌≡◌, Bool, false, ◌||◌, List, length, get_or, take, eqb}
use Rattle.lists.specs.Lists.{front}
use Rattle.walks.specs.declared.arc.Arc.{Arc}
use Rattle.sheet.specs.Sheet.{Sheet, sheet_of, Sized, all_arcs, ends_mandatory, required}
use Rattle.sheet.specs.Good.{Good}
use Rattle.rows.specs.Net.{net_of, Proper}
use Rattle.sheet.specs.declared.Header.{Header}

-- the numbers of a taken sheet
pub record Whole (h : Header) (arcs : List Arc) (marks : List ℕ) : Type 0 where
  pub proper : Proper (net_of h.nodes arcs marks)
  pub sized : Sized h arcs marks
  pub few : h.arcs ≤ 512
  pub source : h.source < h.nodes
  pub target : h.target < h.nodes
  pub limit : h.limit ≤ 1000000
  pub good : Good (sheet_of h arcs marks)
  pub eight : length (required (sheet_of h arcs marks)) ≤ 8

-- 64 marks: true for each node that is source, target or an end of a mandatory arc, and else false
pub record ForcedNodes (S : Sheet) (forced : List Bool) : Type 0 where
  pub size : length forced ≡ 64
  pub each : (p : ℕ) → p < 64 → get_or forced p false ≡ (eqb p S.source || (eqb p S.target || ends_mandatory S p (all_arcs S.graph)))

-- so many entries there are, and as many of them as the list has room for stand in front of it
pub record RoomListed (xs old list : List ℕ) (n : ℕ) : Type 0 where
  pub counted : n ≡ length xs
  pub written : list ≡ front (take (length old) xs) old
