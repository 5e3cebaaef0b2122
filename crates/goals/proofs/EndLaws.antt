-- Where a walk enters and leaves a goal, by the list of the arcs alone. Assumes nothing.
use Prim.Native.Nat.{ℕ, ◌+◌, ◌-◌, ◌≤◌, ◌<◌}
use mathlib.Core.Path.{◌≡◌, sym}
use mathlib.Core.List.{List, []}
use native.Mathlib.Omega.{arith}
use Rattle.walks.proofs.GoalLaws.{entry_node, exit_node}
use Rattle.walks.specs.declared.arc.Arc.{Arc}
use Rattle.walks.specs.Flat.{graph_of}
use Rattle.walks.specs.Goals.{entry_of, exit_of}
use Rattle.rows.proofs.ArcLaws.{entry_at, exit_at}
use Rattle.rows.specs.Net.{net_of, arc_count, tail_in, head_in, Joins}

module _ (n : ℕ) (xs : List Arc) (g : ℕ) where
  pub entry_itself : g < n → (g ≡ entry_of (graph_of n xs) g) × (g < n)
  entry_itself h = (sym (entry_node (graph_of n xs) g h), h)

  pub exit_itself : g < n → (g ≡ exit_of (graph_of n xs) g) × (g < n)
  exit_itself h = (sym (exit_node (graph_of n xs) g h), h)

  module _ (J : Joins n xs) (arc : n ≤ g) (below : g < n + arc_count xs) where
    pub entry_tail : (tail_in xs (g - n) ≡ entry_of (graph_of n xs) g) × (tail_in xs (g - n) < n)
    entry_tail = (entry_at (net_of n xs []) g arc below, (J (g - n) (omega arith)).0)

    pub exit_head : (head_in xs (g - n) ≡ exit_of (graph_of n xs) g) × (head_in xs (g - n) < n)
    exit_head = (exit_at (net_of n xs []) g arc below, (J (g - n) (omega arith)).1)
