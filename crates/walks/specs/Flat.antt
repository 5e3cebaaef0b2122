-- Arcs as a program in C lends them: one list of three numbers each, tail, head and weight.
use Rattle.std.specs.Prelude.{ℕ, List, [], ◌∷◌}
use Rattle.walks.specs.declared.arc.Arc.{Arc}
use Rattle.walks.specs.Graph.{Graph}

-- the arcs that a list of tail, head and weight of each arc holds
unfoldable pub arcs_of : List ℕ → List Arc
arcs_of [] = []
arcs_of (t ∷ []) = []
arcs_of (t ∷ h ∷ []) = []
arcs_of (t ∷ h ∷ w ∷ xs) = record { tail = t; head = h; weight = w } ∷ arcs_of xs

abbrev pub graph_of : ℕ → List Arc → Graph
graph_of n xs = record { nodes = n; arcs = xs }

-- the same the other way: the numbers of the arcs in a row
unfoldable pub flat : List Arc → List ℕ
flat [] = []
flat (x ∷ xs) = x.tail ∷ x.head ∷ x.weight ∷ flat xs
