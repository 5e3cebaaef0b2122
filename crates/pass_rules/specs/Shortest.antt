-- How long a shortest walk is at most (document 02, requests 2.5 and 2.7).
use Rattle.std.specs.Prelude.{ℕ, ◌≤◌, ◌≡◌, Bool, true, List, length}
use Rattle.walks.specs.Graph.{Graph, len, fit}

-- a shortest one of the walks from s to t that fit, with at most 575 arcs and 38,027,625 minutes
pub record Shortest (G : Graph) (closed : ℕ → Bool) (goals : List ℕ) (s t : ℕ) : Type 0 where
  pub way : List ℕ
  pub fitting : fit G closed goals s t way ≡ true
  pub shortest : (u : List ℕ) → fit G closed goals s t u ≡ true → len G way ≤ len G u
  pub arcs : length way ≤ 575
  pub minutes : len G way ≤ 38027625
