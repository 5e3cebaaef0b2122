-- A route (document 01: a round), and what the marks demand of it.
use Rattle.std.specs.Prelude.{ℕ, ◌≤◌, ◌≡◌, true, List}
use Rattle.lists.specs.Lists.{keep, Distinct}
use Rattle.walks.specs.Graph.{touched, len, fit}
use Rattle.sheet.specs.Sheet.{Sheet, is_mandatory, is_forbidden, all_items}

-- the mandatory items
unfoldable pub mandatory : Sheet → List ℕ
mandatory S = keep (is_mandatory S) (all_items S.graph)

-- a walk that touches no node twice, is clear of all forbidden items, meets all mandatory items, and has length at most the limit
pub record Route (S : Sheet) (w : List ℕ) : Type 0 where
  pub obeys : fit S.graph (is_forbidden S) (mandatory S) S.source S.target w ≡ true
  pub simple : Distinct (touched S.graph S.source w)
  pub short : len S.graph w ≤ S.limit

-- the sheet with other marks
abbrev pub marked : Sheet → List ℕ → Sheet
marked S marks = record { graph = S.graph; source = S.source; target = S.target; limit = S.limit; marks = marks }
