-- Arcs with tail and head exchanged: walks go backwards, at the same length. Assumes nothing.
use Prim.Native.Nat.{ℕ, ◌<◌}
use mathlib.Core.Path.{◌≡◌, refl, sym, ◌∙◌, subst}
use mathlib.Core.Bool.{Bool, true}
use mathlib.Core.List.{List, [], ◌∷◌, ◌++◌}
use native.Mathlib.Omega.{arith}
use lib.ListN.{length}
use Rattle.walks.proofs.Join.{meets_none, len_append, walk_append, walk_first}
use Rattle.walks.proofs.LeastLaw.{Upto, Attained, is_least, least_unique, fit_walk, walk_fit}
use Rattle.walks.specs.declared.arc.Arc.{Arc}
use Rattle.walks.specs.Graph.{Graph, tail_of, head_of, weight_of, arc_item, len, fit, least}
use Rattle.walks.specs.Lengths.{Least, none, some}
use Rattle.walks.specs.Walk.{Step, Stay, Walk}

abbrev on : ℕ → List Arc → Graph
on n as' = record { nodes = n; arcs = as' }

-- ys are the arcs xs with tail and head exchanged
pub record Turned (n : ℕ) (xs ys : List Arc) : Type 0 where
  pub many : length ys ≡ length xs
  pub tails : (l : ℕ) → l < length xs → tail_of (on n ys) l ≡ head_of (on n xs) l
  pub heads : (l : ℕ) → l < length xs → head_of (on n ys) l ≡ tail_of (on n xs) l
  pub weights : (l : ℕ) → l < length xs → weight_of (on n ys) l ≡ weight_of (on n xs) l

turned_back : {n : ℕ} {xs ys : List Arc} → Turned n xs ys → Turned n ys xs
turned_back T = record {
  many = sym T.many;
  tails = λ l h. sym (T.heads l (rw (← T.many) h));
  heads = λ l h. sym (T.tails l (rw (← T.many) h));
  weights = λ l h. sym (T.weights l (rw (← T.many) h));
}

-- the walk backwards
back : (n : ℕ) (xs ys : List Arc) (closed : ℕ → Bool) → Turned n xs ys → (w : List ℕ) (a b : ℕ) → Walk (on n xs) closed a b w
    → (v : List ℕ) × Walk (on n ys) closed b a v × (len (on n ys) v ≡ len (on n xs) w)
unfolding len arc_item
back n xs ys closed T [] a b W = (
  [],
  subst (λ (x : ℕ). Walk (on n ys) closed x a []) W.there (record { node = W.node; open_node = W.open_node; there = refl }),
  refl,
)
back n xs ys closed T (l ∷ w) a b W =
    let r = back n xs ys closed T w (head_of (on n xs) l) b W.1 in
    let f = walk_first (on n xs) closed (head_of (on n xs) l) b w W.1 in
    let e : head_of (on n ys) l ≡ a = T.heads l W.0.arc ∙ W.0.leaves in
    let step : Step (on n ys) closed (head_of (on n xs) l) l = record {
      node = f.0;
      open_node = f.1;
      arc = rw T.many W.0.arc;
      open_arc = W.0.open_arc;
      leaves = T.tails l W.0.arc;
    } in
    let stay : Stay (on n ys) closed (head_of (on n ys) l) a = record { node = rw e W.0.node; open_node = rw e W.0.open_node; there = e } in (
      r.0 ++ l ∷ [],
      walk_append (on n ys) closed b (head_of (on n xs) l) a r.0 (l ∷ []) r.1 (step, stay),
      len_append (on n ys) r.0 (l ∷ []) ∙ omega (arith, r.2, T.weights l W.0.arc),
    )

back_fit : (n : ℕ) (xs ys : List Arc) (closed : ℕ → Bool) → Turned n xs ys → (a b : ℕ) (w : List ℕ) → fit (on n xs) closed [] a b w ≡ true
    → (v : List ℕ) × (fit (on n ys) closed [] b a v ≡ true) × (len (on n ys) v ≡ len (on n xs) w)
back_fit n xs ys closed T a b w e =
    let r = back n xs ys closed T w a b (fit_walk (on n xs) closed [] b a w e).0 in
    (r.0, walk_fit (on n ys) closed [] a b r.0 r.1 (meets_none (on n ys) b r.0), r.2)

-- the least length to a node is the least length from it over the exchanged arcs
pub least_back : (n : ℕ) (xs ys : List Arc) (closed : ℕ → Bool) → Turned n xs ys → (a b : ℕ)
    → least (record { nodes = n; arcs = ys }) closed [] b a ≡ least (record { nodes = n; arcs = xs }) closed [] a b
least_back n xs ys closed T a b =
    least_unique (on n xs) closed [] a b (least (on n ys) closed [] b a) (least (on n xs) closed [] a b)
    (record { attained = attained (least (on n ys) closed [] b a) (is_least (on n ys) closed [] b a).attained; lower = low })
    (is_least (on n xs) closed [] a b)
  where
    attained : (r : Least) → Attained (on n ys) (fit (on n ys) closed [] b a) r → Attained (on n xs) (fit (on n xs) closed [] a b) r
    attained none t = tt
    attained (some k) t = let v = back_fit n ys xs closed (turned_back T) b a t.0 t.1 in (v.0, v.1, v.2 ∙ t.2)

    low : (w : List ℕ) → fit (on n xs) closed [] a b w ≡ true → Upto (least (on n ys) closed [] b a) (len (on n xs) w)
    low w e =
        let v = back_fit n xs ys closed T a b w e in
        subst (λ (k : ℕ). Upto (least (on n ys) closed [] b a) k) v.2 ((is_least (on n ys) closed [] b a).lower v.0 v.1)
