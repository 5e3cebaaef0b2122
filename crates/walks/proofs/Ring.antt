-- The bound on the arcs of a shortest walk is reached: on a ring of four nodes with two goals every walk has at least 4 × (1 + 2) − 1 = 11 arcs, three
-- times along the ring and once over each of two arcs back. So no smaller bound by nodes and goals is true. By computation. Assumes nothing.
use Prim.Native.Nat.{ℕ, zero, suc, ◌≤◌, ◌<◌}
use mathlib.Core.Path.{◌≡◌, refl, subst}
use mathlib.Core.Bool.{Bool, true, false}
use mathlib.Core.List.{List, [], ◌∷◌}
use native.Mathlib.Omega.{arith}
use lib.ListN.{length}
use Rattle.lists.specs.Lists.{member, span}
use Rattle.walks.proofs.Bound.{len_bound}
use Rattle.walks.proofs.LeastLaw.{IsLeast, is_least, fit_walk}
use Rattle.walks.specs.declared.arc.Arc.{Arc}
use Rattle.walks.specs.Graph.{Graph, tail_of, head_of, weight_of, arc_item, chain, items, len, clear, meets, fit, begin, onward, chains, against, least_of, least}
use Rattle.walks.specs.Lengths.{Least, some, lesser}

abbrev step : ℕ → ℕ → Arc
step a b = record { tail = a; head = b; weight = 1 }

-- 1 to 2 to 3 to 0, and two arcs from 0 back to 1, which are items 7 and 8
pub ring : Graph
ring = record { nodes = 4; arcs = step 1 2 ∷ step 2 3 ∷ step 3 0 ∷ step 0 1 ∷ step 0 1 ∷ [] }

pub none_closed : ℕ → Bool
none_closed i = false

pub ring_least : least ring none_closed (7 ∷ 8 ∷ []) 1 0 ≡ some 11
unfolding ring none_closed member span tail_of head_of weight_of arc_item chain items len clear meets fit begin onward chains against least_of least lesser
ring_least = refl

ring_weight : (l : ℕ) → l < length ring.arcs → weight_of ring l ≤ 1
unfolding ring weight_of
ring_weight zero h = omega arith
ring_weight (suc zero) h = omega arith
ring_weight (suc (suc zero)) h = omega arith
ring_weight (suc (suc (suc zero))) h = omega arith
ring_weight (suc (suc (suc (suc zero)))) h = omega arith
ring_weight (suc (suc (suc (suc (suc l))))) h = absurd (omega arith)

pub ring_arcs : (w : List ℕ) → fit ring none_closed (7 ∷ 8 ∷ []) 1 0 w ≡ true → 11 ≤ length w
ring_arcs w f =
    let L = subst (λ (r : Least). IsLeast ring none_closed (7 ∷ 8 ∷ []) 1 0 r) ring_least (is_least ring none_closed (7 ∷ 8 ∷ []) 1 0) in
    omega (arith, L.lower w f, len_bound ring none_closed 1 0 1 w ring_weight (fit_walk ring none_closed (7 ∷ 8 ∷ []) 0 1 w f).0)
