-- Walks as propositions: step by step, the same as `chain` and `clear` say by a test (`fit_walk`, `walk_fit`); and whether one keeps to a limit.
use Rattle.std.specs.Prelude.{ℕ, ◌≤◌, ◌<◌, ◌≡◌, Bool, true, false, List, [], ◌∷◌, length}
use Rattle.walks.specs.Graph.{Graph, tail_of, head_of, arc_item, fit, len}

-- the arc l can be taken at the node a
pub record Step (G : Graph) (closed : ℕ → Bool) (a l : ℕ) : Type 0 where
  pub node : a < G.nodes
  pub open_node : closed a ≡ false
  pub arc : l < length G.arcs
  pub open_arc : closed (arc_item G l) ≡ false
  pub leaves : tail_of G l ≡ a

-- the walk w stays at the end
pub record Stay (G : Graph) (closed : ℕ → Bool) (a b : ℕ) : Type 0 where
  pub node : a < G.nodes
  pub open_node : closed a ≡ false
  pub there : a ≡ b

-- w is a walk from a to b that is clear of what is closed
abbrev pub Walk : Graph → (ℕ → Bool) → ℕ → ℕ → List ℕ → Type 0
Walk G closed a b [] = Stay G closed a b
Walk G closed a b (l ∷ w) = Step G closed a l × Walk G closed (head_of G l) b w

-- some walk from s to t, clear of what is closed, meets the goals within the limit k
pub record SomeWalk (G : Graph) (s t k : ℕ) (closed : ℕ → Bool) (goals : List ℕ) : Type 0 where
  pub way : List ℕ
  pub fitting : fit G closed goals s t way ≡ true
  pub short : len G way ≤ k

-- every such walk that meets the goals is longer than k
abbrev pub NoWalk : Graph → ℕ → ℕ → ℕ → (ℕ → Bool) → List ℕ → Type 0
NoWalk G s t k closed goals = (w : List ℕ) → fit G closed goals s t w ≡ true → k < len G w
