-- What the code tells of a least length.
use Rattle.std.specs.Prelude.{ℕ, ◌^◌, ◌<◌, ◌≡◌, List, length, Option}
use Rattle.walks.specs.Graph.{least}
use Rattle.rows.specs.Held.{at_most}
use Rattle.rows.specs.Net.{Net, graph, closed}
use Rattle.goal_table.specs.Table.{Filled}
pub use Rattle.goals.specs.Told.{as_least}

-- r is the least length over k goals to v, where it is at most the cap, by a table that is done
abbrev pub ToldAll : ℕ → ℕ → ℕ → List ℕ → Option ℕ → Type 0
ToldAll cap k v work r =
    (N : Net) (a : ℕ) (goals : List ℕ) → length goals ≡ k → v < N.nodes → Filled N cap a goals (2 ^ k) work
    → as_least r ≡ at_most cap (least (graph N) (closed N) goals a v)
