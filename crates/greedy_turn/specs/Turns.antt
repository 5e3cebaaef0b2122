-- What holds while the items are gone through.
use Rattle.std.specs.Prelude.{ℕ, ◌+◌, ◌≤◌, ◌<◌, ◌≡◌, Bool, true, false, not, List, length, get_or, set, take}
use Rattle.lists.specs.Lists.{Distinct, pick}
use Rattle.walks.specs.Flat.{graph_of}
use Rattle.walks.specs.declared.arc.Arc.{Arc}
use Rattle.walks.specs.Graph.{Graph, closed_in, fits}
use Rattle.rows.specs.Held.{missing}
use Rattle.rows.specs.Net.{Net, net_of, graph, closed, arc_count, Joins}
use Rattle.rows.specs.Rows.{RowsAre, scratch_numbers}
use Rattle.row_save.specs.Unmoved.{Entered}
use Rattle.row_links.specs.Links.{Linked}
use Rattle.goal_table.specs.Table.{StartsAre, Rowed, Noted}
use Rattle.greedy_turn.specs.declared.Task as code

-- What stays: the nodes and arcs, the target, the limit, the goals, and the starts of the rows, the first of which is the source.
pub record Task : Type 0 where
  pub nodes : ℕ
  pub arcs : List Arc
  pub to : ℕ
  pub cap : ℕ
  pub goals : List ℕ
  pub starts : List ℕ

-- what the code has
abbrev pub task_is : code.Task → Task
task_is t = record {
  nodes = t.nodes;
  arcs = t.arcs.now;
  to = t.to;
  cap = t.cap;
  goals = t.goals.now;
  starts = t.starts.now;
}

abbrev pub map : Task → Graph
map T = graph_of T.nodes T.arcs

abbrev pub net : Task → List ℕ → Net
net T marks = net_of T.nodes T.arcs marks

abbrev pub source : Task → ℕ
source T = get_or T.starts 0 0

abbrev pub task_items : Task → ℕ
task_items T = T.nodes + arc_count T.arcs

-- the ends are nodes, the goals different items of the graph, at most 8, and the rows start at the source and where each goal is left
pub record Setting (T : Task) : Type 0 where
  pub small : T.cap < missing
  pub few : T.nodes ≤ 64
  pub short : length T.arcs ≤ 512
  pub joins : Joins T.nodes T.arcs
  pub target : T.to < T.nodes
  pub eight : length T.goals ≤ 8
  pub below : (i : ℕ) → i < length T.goals → get_or T.goals i 0 < task_items T
  pub distinct : Distinct T.goals
  pub begin : StartsAre (map T) (source T) T.goals T.starts
  pub counted : length T.starts ≡ length T.goals + 1

-- some walk fits where the marks close
abbrev pub fits_at : Task → List ℕ → Bool
fits_at T marks = fits (map T) (source T) T.to T.cap (closed_in marks) T.goals

-- the answer tells whether some walk fits, where the work has the rows
abbrev pub Told : Net → ℕ → ℕ → ℕ → List ℕ → List ℕ → Bool → Type 0
Told N a b cap goals work r = Rowed N cap a goals work → fits (graph N) a b cap (closed N) goals ≡ r

-- the goals' entries and own lengths are noted, and the rows are as they were
pub record NotedBeside (N : Net) (cap : ℕ) (goals work after : List ℕ) : Type 0 where
  pub noted : Noted N cap goals after
  pub front : take 576 after ≡ take 576 work

-- the work holds the rows
abbrev pub RowsFor : Task → List ℕ → List ℕ → Type 0
RowsFor T marks work = RowsAre (net T marks) T.cap T.starts (length T.starts) work

-- and the goals' entries and own lengths for the marks
pub record Ready (T : Task) (marks work : List ℕ) : Type 0 where
  pub rows : RowsFor T marks work
  pub noted : Noted (net T marks) T.cap T.goals work

-- while item i is open: the open arcs are linked, and the work tells where each goal is entered
pub record InTurn (T : Task) (i : ℕ) (marks : List ℕ) (arcs : List Arc) (chains : List ℕ) (c : ℕ) (work : List ℕ) : Type 0 where
  pub below : i < task_items T
  pub marked : task_items T ≤ length marks
  pub links : Linked (net T marks) c arcs chains
  pub long : length work ≡ scratch_numbers
  pub entered : Entered (length T.goals) work

-- Whether no walk fits once an item is opened: then the work holds what it has to for the marks, else the rows before are back.
pub record TurnJudged (T : Task) (old marks after : List ℕ) (r : Bool) : Type 0 where
  pub answer : fits_at T marks ≡ not r
  pub opened : r ≡ true → Ready T marks after
  pub back : r ≡ false → RowsFor T old after

-- so it is judged, where no walk fitted before item i was opened and the work was ready for the marks as they were
abbrev pub Judges : Task → ℕ → List ℕ → List ℕ → List ℕ → Bool → Type 0
Judges T i marks work after r = (old : List ℕ) → marks ≡ set old i 0 → Ready T old work → fits_at T old ≡ false → TurnJudged T old marks after r

-- what holds whenever the next item is taken: the open arcs are linked, the work is ready, and no walk fits
pub record State (T : Task) (marks : List ℕ) (arcs : List Arc) (chains : List ℕ) (c : ℕ) (work : List ℕ) : Type 0 where
  pub marked : task_items T ≤ length marks
  pub links : Linked (net T marks) c arcs chains
  pub long : length work ≡ scratch_numbers
  pub ready : Ready T marks work
  pub blocked : fits_at T marks ≡ false

-- What a turn does with item i: nothing where it is open; else it is opened, and closed again and listed where a walk fits then.
pub record Turned (T : Task) (marks : List ℕ) (i : ℕ) (after : List ℕ) (listed : Bool) : Type 0 where
  pub passed : closed_in marks i ≡ false → (listed ≡ false) × (after ≡ marks)
  pub tried : closed_in marks i ≡ true → (fits_at T (set marks i 0) ≡ listed) × (after ≡ pick listed marks (set marks i 0))
