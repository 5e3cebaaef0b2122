-- What the turns begin with. Assumes nothing.
use Prim.Native.Nat.{ℕ, ◌+◌, ◌≤◌, ◌<◌}
use mathlib.Core.Path.{◌≡◌, refl}
use mathlib.Core.List.{List}
use lib.ListN.{length, take}
use Rattle.walks.specs.Flat.{graph_of}
use Rattle.walks.specs.declared.arc.Arc.{Arc}
use Rattle.rows.specs.Held.{missing}
use Rattle.rows.specs.Net.{net_of, Proper}
use Rattle.rows.specs.Rows.{scratch_numbers}
use Rattle.row_links.specs.Links.{Linked}
use Rattle.goal_table.specs.Table.{GoalsFit, StartsAre, Noted}
use Rattle.lengths.proofs.PartLaws.{rows_of, rowed_kept}
use Rattle.greedy_turn.specs.Turns.{Setting, State}
use Rattle.greedy.specs.Listing.{Stuck}

module _ {n : ℕ} {xs : List Arc} {marks : List ℕ} {from to cap : ℕ} {goals ss : List ℕ} (p : Proper (net_of n xs marks))
    (g : GoalsFit (net_of n xs marks) goals) (S : StartsAre (graph_of n xs) from goals ss) (k : length ss ≡ length goals + 1) where
  pub setting_of : length xs ≤ 512 → to < n → cap < missing → Setting (record { nodes = n; arcs = xs; to = to; cap = cap; goals = goals; starts = ss })
  setting_of short t small = record {
    small = small;
    few = p.few;
    short = short;
    joins = λ i h. (p.tails i h, p.heads i h);
    target = t;
    eight = g.eight;
    below = g.below;
    distinct = g.distinct;
    begin = record { source = refl; exits = S.exits; inside = S.inside };
    counted = k;
  }

  pub state_of : {ps : List Arc} {ks : List ℕ} {c : ℕ} {mid work : List ℕ} → Linked (net_of n xs marks) c ps ks → length work ≡ scratch_numbers
      → Noted (net_of n xs marks) cap goals work → take 576 work ≡ take 576 mid → Stuck (net_of n xs marks) from to cap goals mid
      → State (record { nodes = n; arcs = xs; to = to; cap = cap; goals = goals; starts = ss }) marks ps ks c work
  state_of {work = work} L l N f B = record {
    marked = p.marked;
    links = L;
    long = l;
    ready = record { rows = rows_of {work = work} k S (rowed_kept p.few g.eight f B.1); noted = N };
    blocked = rw S.source B.0;
  }
