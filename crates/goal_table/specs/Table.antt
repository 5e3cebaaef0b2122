-- What lies in the work while the least length over goals is looked for: the rows (9 of 64 numbers: from the source, and from where each goal is
-- left), from 576 on the node where each goal is entered, from 584 on each goal's own length, and from 1024 on the table, room for 8 entries for each set
-- of goals.
use Rattle.std.specs.Prelude.{◌≡◌, true, List, [], ℕ, ◌+◌, ◌*◌, ◌-◌, ◌^◌, ◌≤◌, ◌<◌, length, get_or, take, drop}
use Rattle.lists.specs.Lists.{Distinct}
use Rattle.rows.specs.Held.{missing, held}
use Rattle.rows.specs.Net.{Net, graph, closed, count}
use Rattle.rows.specs.Rows.{RowIs}
use Rattle.walks.specs.Goals.{entry_of, exit_of, own_of}
use Rattle.walks.specs.Graph.{Graph, least}
use Rattle.walks.specs.Lengths.{Least, some, plus, lesser}
use Rattle.goal_table.specs.Sets.{has, chosen, just_past}

-- at most 8 goals, different items of the graph
pub record GoalsFit (N : Net) (goals : List ℕ) : Type 0 where
  pub eight : length goals ≤ 8
  pub below : (i : ℕ) → i < length goals → get_or goals i 0 < N.nodes + count N
  pub distinct : Distinct goals

-- the starts of the rows: a, and where each goal below n is left
pub record StartsTo (G : Graph) (a : ℕ) (goals : List ℕ) (n : ℕ) (starts : List ℕ) : Type 0 where
  pub source : get_or starts 0 0 ≡ a
  pub exits : (i : ℕ) → i < n → get_or starts (i + 1) 0 ≡ exit_of G (get_or goals i 0)
  pub inside : (i : ℕ) → i ≤ n → get_or starts i 0 < G.nodes

abbrev pub StartsAre : Graph → ℕ → List ℕ → List ℕ → Type 0
StartsAre G a goals starts = StartsTo G a goals (length goals) starts

-- the rows of the work: from a, and from where each goal is left
pub record Rowed (N : Net) (cap a : ℕ) (goals work : List ℕ) : Type 0 where
  pub first : RowIs N cap a work
  pub rows : (i : ℕ) → i < length goals → (v : ℕ) → v < N.nodes
      → get_or work (64 + i * 64 + v) 0 ≡ held cap (least (graph N) (closed N) [] (exit_of (graph N) (get_or goals i 0)) v)

-- where the goals below n are entered, and their own lengths
pub record NotedTo (N : Net) (cap : ℕ) (goals : List ℕ) (n : ℕ) (work : List ℕ) : Type 0 where
  pub entries : (i : ℕ) → i < n → get_or work (576 + i) 0 ≡ entry_of (graph N) (get_or goals i 0)
  pub owns : (i : ℕ) → i < n → get_or work (584 + i) 0 ≡ held cap (own_of (graph N) (closed N) (get_or goals i 0))

abbrev pub Noted : Net → ℕ → List ℕ → List ℕ → Type 0
Noted N cap goals work = NotedTo N cap goals (length goals) work

-- the table's entries for the goals of a set that are below n; nothing is said of an entry for a goal that is not in it
abbrev pub SetAt : Net → ℕ → ℕ → List ℕ → ℕ → ℕ → List ℕ → Type 0
SetAt N cap a goals S n work =
    (i : ℕ) → i < n → has S i ≡ true → get_or work (1024 + S * 8 + i) 0 ≡ held cap (just_past (graph N) (closed N) a goals (S - 2 ^ i) i)

-- the work once the rows are done and the table's entries for the sets below n
pub record Filled (N : Net) (cap a : ℕ) (goals : List ℕ) (n : ℕ) (work : List ℕ) : Type 0 where
  pub small : N.nodes ≤ 64
  pub fit : GoalsFit N goals
  pub rowed : Rowed N cap a goals work
  pub noted : Noted N cap goals work
  pub inside : (i : ℕ) → i < length goals → get_or work (576 + i) 0 < N.nodes
  pub sets : (S : ℕ) → S < n → SetAt N cap a goals S (length goals) work

-- and the entries for the goals of the set n that are below i
pub record FilledTo (N : Net) (cap a : ℕ) (goals : List ℕ) (n i : ℕ) (work : List ℕ) : Type 0 where
  pub filled : Filled N cap a goals n work
  pub set : SetAt N cap a goals n i work

-- the work has what tells the least length over the goals of the set S to v
pub record SetAsked (N : Net) (cap a : ℕ) (goals : List ℕ) (S v : ℕ) (work : List ℕ) : Type 0 where
  pub fit : GoalsFit N goals
  pub rowed : Rowed N cap a goals work
  pub set : SetAt N cap a goals S (length goals) work
  pub few : S < 2 ^ length goals
  pub node : v < N.nodes

-- r is held as the lesser of what best is held as, and the sum of the lengths that are held as x and y
abbrev pub Bettered : ℕ → ℕ → ℕ → ℕ → Type 0
Bettered x y best r =
    (cap : ℕ) (p q s : Least) → cap < missing → x ≡ held cap p → y ≡ held cap q → held cap (some best) ≡ held cap s
    → held cap (some r) ≡ held cap (lesser s (plus p q))

-- r is the least length over the goals of the set S to v, by a work that has what tells it
abbrev pub ReachedBy : ℕ → ℕ → ℕ → List ℕ → ℕ → Type 0
ReachedBy cap S v work r =
    (N : Net) (a : ℕ) (goals : List ℕ) → SetAsked N cap a goals S v work → r ≡ held cap (least (graph N) (closed N) (chosen goals S) a v)

-- goal i of the set S is done, and so are the goals of S below it
abbrev pub Puts : ℕ → ℕ → ℕ → List ℕ → List ℕ → Type 0
Puts cap S i work after =
    (N : Net) (a : ℕ) (goals : List ℕ) → S < 2 ^ length goals → FilledTo N cap a goals S i work → FilledTo N cap a goals S (i + 1) after

-- the set S is done, and so are those below it
abbrev pub FillsSet : ℕ → ℕ → List ℕ → List ℕ → Type 0
FillsSet cap S work after =
    (N : Net) (a : ℕ) (goals : List ℕ) → S < 2 ^ length goals → Filled N cap a goals S work → Filled N cap a goals (S + 1) after

-- the sets of k goals are done
abbrev pub FillsTable : ℕ → ℕ → List ℕ → List ℕ → Type 0
FillsTable cap k work after =
    (N : Net) (a : ℕ) (goals : List ℕ) → length goals ≡ k → Filled N cap a goals 0 work → Filled N cap a goals (2 ^ k) after

-- room for the table, at most 8 goals, each entered at a node that a row has
pub record TableFits (k : ℕ) (work : List ℕ) : Type 0 where
  pub long : 3072 ≤ length work
  pub eight : k ≤ 8
  pub entries : (i : ℕ) → i < k → get_or work (576 + i) 0 < 64

-- room for the table's entries for the set S, each of its goals entered at a node that a row has
pub record SetFits (S : ℕ) (work : List ℕ) : Type 0 where
  pub long : 3072 ≤ length work
  pub small : S < 256
  pub entries : (i : ℕ) → has S i ≡ true → get_or work (576 + i) 0 < 64

-- the work outside the table is as it was
pub record TableOnly (work after : List ℕ) : Type 0 where
  pub front : take 1024 after ≡ take 1024 work
  pub behind : drop 3072 after ≡ drop 3072 work
