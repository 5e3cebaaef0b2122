-- What the greedy list is made from.
use Rattle.std.specs.Prelude.{ℕ, ◌+◌, ◌≤◌, ◌<◌, ◌≡◌, false, List, length}
use Rattle.walks.specs.Graph.{fits}
use Rattle.reason_list.specs.Reasons.{reasons}
use Rattle.rows.specs.Net.{Net, graph, closed, count}
use Rattle.rows.specs.Rows.{scratch_numbers}
use Rattle.lengths.specs.declared.Query.{Query}
use Rattle.goal_table.specs.Table.{Rowed}

-- the greedy list of a graph and its marks
abbrev pub reasons_in : Net → ℕ → ℕ → ℕ → List ℕ → List ℕ
reasons_in N from to cap goals = reasons (graph N) from to cap goals N.marks

-- no walk fits, and the work has the rows
abbrev pub Stuck : Net → ℕ → ℕ → ℕ → List ℕ → List ℕ → Type 0
Stuck N from to cap goals work = (fits (graph N) from to cap (closed N) goals ≡ false) × Rowed N cap from goals work

-- a walk asked for between two nodes, and room for what is computed and listed
abbrev pub Listable : Query → Net → List ℕ → List ℕ → Type 0
Listable query N work list = (length work ≡ scratch_numbers) × (N.nodes + count N ≤ length list) × (query.from < N.nodes) × (query.to < N.nodes)
