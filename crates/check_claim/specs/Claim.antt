-- What the code has ready when it asks whether a walk clear of the reasons meets the goals.
use Rattle.std.specs.Prelude.{ℕ, ◌<◌, ◌≡◌, true, List, length}
use Rattle.lists.specs.Lists.{member}
use Rattle.walks.specs.declared.arc.Arc.{Arc}
use Rattle.rows.specs.Net.{net_of, Proper}
use Rattle.goal_table.specs.Table.{GoalsFit}
use Rattle.sheet.specs.declared.Header.{Header}

-- goals and reasons for which a least length can be asked, whatever is closed
pub record Claimed (h : Header) (arcs : List Arc) (goals reasons : List ℕ) : Type 0 where
  pub proper : (marks : List ℕ) → length marks ≡ 576 → Proper (net_of h.nodes arcs marks)
  pub fit : (marks : List ℕ) → GoalsFit (net_of h.nodes arcs marks) goals
  pub items : (j : ℕ) → member j reasons ≡ true → j < 576
