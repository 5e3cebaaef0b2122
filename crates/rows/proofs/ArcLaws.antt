-- The arcs of a graph, as the code reads them from one list. Assumes nothing.
use Prim.Native.Nat.{ℕ, ◌+◌, ◌-◌, ◌≤◌, ◌<◌}
use mathlib.Core.Path.{◌≡◌, refl, sym, ap, ◌∙◌, subst}
use mathlib.Core.List.{List}
use native.Mathlib.Omega.{arith}
use lib.ListN.{get_or}
use lib.Dec.{ltb}
use mathlib.Core.Bool.{Bool, true, false}
use borrow.Author.Tests.{le-ltb, ltb-true, ltb-false}
use Rattle.walks.proofs.GoalLaws.{Item, node, arc, entry_node}
use Rattle.walks.specs.Goals.{entry_of, exit_of, over, own_of}
use Rattle.walks.specs.declared.arc.Arc.{Arc}
use Rattle.walks.specs.Graph.{no_arc, tail_of, head_of, weight_of, arc_item}
use Rattle.walks.specs.Lengths.{none, some}
use Rattle.rows.specs.Net.{Net, graph, closed, count, tail_at, head_at, weight_at, arc_at, SameArc, Proper}

module _ (N : Net) (i : ℕ) (h : i < count N) where
  pub tail_at_lem : tail_of (graph N) i ≡ tail_at N i
  unfolding tail_of
  tail_at_lem = refl

  pub head_at_lem : head_of (graph N) i ≡ head_at N i
  unfolding head_of
  head_at_lem = refl

  pub weight_at_lem : weight_of (graph N) i ≡ weight_at N i
  unfolding weight_of
  weight_at_lem = refl

-- an item that is no node is an arc
module _ (N : Net) (g : ℕ) (h : N.nodes ≤ g) (below : g < N.nodes + count N) where
  pub entry_at : tail_at N (g - N.nodes) ≡ entry_of (graph N) g
  unfolding entry_of
  entry_at = rw (le-ltb g N.nodes h) (sym (tail_at_lem N (g - N.nodes) (omega arith)))

  pub exit_at : head_at N (g - N.nodes) ≡ exit_of (graph N) g
  unfolding exit_of
  exit_at = rw (le-ltb g N.nodes h) (sym (head_at_lem N (g - N.nodes) (omega arith)))

  pub own_shut_at : closed N g ≡ true → own_of (graph N) (closed N) g ≡ none
  unfolding own_of over
  own_shut_at o = rw (le-ltb g N.nodes h, o)

  pub own_at : closed N g ≡ false → own_of (graph N) (closed N) g ≡ some (weight_at N (g - N.nodes))
  unfolding own_of over
  own_at o = rw (le-ltb g N.nodes h, o) (ap some (weight_at_lem N (g - N.nodes) (omega arith)))

pub item_at : (N : Net) (g : ℕ) → g < N.nodes + count N → Item (graph N) g
unfolding arc_item
item_at N g below = go (ltb g N.nodes) refl
  where
    go : (t : Bool) → ltb g N.nodes ≡ t → Item (graph N) g
    go true q = node (ltb-true g N.nodes q)
    go false q =
        let h = ltb-false g N.nodes q in
        let e : N.nodes + (g - N.nodes) ≡ g = omega arith in
        subst (λ (x : ℕ). Item (graph N) x) e (arc (g - N.nodes) (omega arith))

-- a walk comes to an item at a node
pub entry_below : (N : Net) (g : ℕ) → Proper N → g < N.nodes + count N → entry_of (graph N) g < N.nodes
entry_below N g p below = go (ltb g N.nodes) refl
  where
    go : (t : Bool) → ltb g N.nodes ≡ t → entry_of (graph N) g < N.nodes
    go true q = let h = ltb-true g N.nodes q in rw (entry_node (graph N) g h) h
    go false q =
        let h = ltb-false g N.nodes q in
        omega (arith, entry_at N g h below, p.tails (g - N.nodes) (omega arith))

-- the same arc in two lists, and in a list and a net
pub same_arcs : {N : Net} {i j k : ℕ} {xs ys : List Arc} → get_or ys k no_arc ≡ get_or xs j no_arc → SameArc N i xs j → SameArc N i ys k
same_arcs e s = record {
  tail = ap (λ (x : Arc). x.tail) e ∙ s.tail;
  head = ap (λ (x : Arc). x.head) e ∙ s.head;
  weight = ap (λ (x : Arc). x.weight) e ∙ s.weight;
}

pub arc_same : {N : Net} {i j : ℕ} {xs : List Arc} → get_or xs j no_arc ≡ arc_at N i → SameArc N i xs j
arc_same e = record { tail = ap (λ (x : Arc). x.tail) e; head = ap (λ (x : Arc). x.head) e; weight = ap (λ (x : Arc). x.weight) e }
