-- How many arcs and what length a shortest walk has at most. Assumes nothing.
use Prim.Native.Nat.{ℕ, suc, ◌*◌, ◌≤◌, ◌<◌}
use mathlib.Core.Path.{◌≡◌, subst}
use mathlib.Core.Bool.{Bool, true}
use mathlib.Core.List.{List, [], ◌∷◌}
use native.Mathlib.Omega.{arith}
use native.Mathlib.Nat.{mul-le-mul, mul-le-mul_right}
use lib.ListN.{length}
use Rattle.walks.proofs.LeastLaw.{IsLeast, is_least, short_fit, fit_walk}
use Rattle.walks.specs.Graph.{Graph, head_of, weight_of, len, fit, least}
use Rattle.walks.specs.Lengths.{Least, some}
use Rattle.walks.specs.Walk.{Walk}

pub len_bound : (G : Graph) (closed : ℕ → Bool) (a b c : ℕ) (w : List ℕ) → ((l : ℕ) → l < length G.arcs → weight_of G l ≤ c) → Walk G closed a b w
    → len G w ≤ length w * c
unfolding len
len_bound G closed a b c [] h W = omega arith
len_bound G closed a b c (l ∷ w) h W = omega (arith, h l W.0.arc, len_bound G closed (head_of G l) b c w h W.1)

-- Where a walk exists, one of least length has fewer than nodes × (1 + goals) arcs.
pub least_few_arcs : (G : Graph) (closed : ℕ → Bool) (goals : List ℕ) (a b k : ℕ) → least G closed goals a b ≡ some k
    → (w : List ℕ) × (fit G closed goals a b w ≡ true) × (len G w ≡ k) × (length w < G.nodes * suc (length goals))
least_few_arcs G closed goals a b k e =
    let L = subst (λ (r : Least). IsLeast G closed goals a b r) e (is_least G closed goals a b) in
    let v = short_fit G closed goals a b L.attained.0 L.attained.1 in
    (v.0, v.1, omega (arith, L.lower v.0 v.1, v.2, L.attained.2), v.3)

-- At most 64 nodes, eight goals, be they nodes or arcs, and weights of at most c: some shortest walk has at most 575 arcs, and its length is at most 575 × c.
pub least_bound : (G : Graph) (closed : ℕ → Bool) (goals : List ℕ) (a b c k : ℕ) → ((l : ℕ) → l < length G.arcs → weight_of G l ≤ c)
    → G.nodes ≤ 64 → length goals ≤ 8 → least G closed goals a b ≡ some k
    → ((w : List ℕ) × (fit G closed goals a b w ≡ true) × (len G w ≡ k) × (length w ≤ 575)) × (k ≤ 575 * c)
least_bound G closed goals a b c k h p g e =
    let v = least_few_arcs G closed goals a b k e in
    let g' : suc (length goals) ≤ 9 = omega arith in
    let y : G.nodes * suc (length goals) ≤ 64 * 9 = mul-le-mul p g' in
    let f : length v.0 ≤ 575 = omega (arith, v.3) in
    let z = len_bound G closed a b c v.0 h (fit_walk G closed goals b a v.0 v.1).0 in
    let m : length v.0 * c ≤ 575 * c = mul-le-mul_right c f in
    ((v.0, v.1, v.2, f), omega (arith, v.2, z, m))
