-- Each walk has another with few arcs, no longer, that meets the same goals. Assumes nothing.
use Prim.Native.Nat.{ℕ, suc, ◌+◌, ◌*◌, ◌≤◌, ◌<◌}
use mathlib.Core.Path.{◌≡◌, refl, sym, ap, subst}
use mathlib.Core.Bool.{Bool, true, false, not, ◌||◌, false≢true}
use mathlib.Core.List.{List, [], ◌∷◌}
use native.Mathlib.Omega.{arith}
use native.Mathlib.Nat.{mul-le-mul_left}
use lib.ListN.{length}
use lib.Dec.{eqb}
use borrow.Author.Tests.{eqb-true}
use Rattle.lists.proofs.Pigeonhole.{Shrunk, keep_shrunk, shrunk_trans, Below, pigeonhole, pair_eq}
use Rattle.lists.specs.Lists.{member, keep, Distinct, without}
use Rattle.walks.specs.Graph.{Graph, head_of, arc_item, len}
use Rattle.walks.specs.Walk.{Walk}

-- what is left of the goals rs, which have no a in them, once the walk w from a is walked
unfoldable pub cross : Graph → ℕ → List ℕ → List ℕ
cross G l rs = without (head_of G l) (without (arc_item G l) rs)

abbrev pub rest : Graph → List ℕ → List ℕ → List ℕ
rest G rs [] = rs
rest G rs (l ∷ w) = rest G (cross G l rs) w

-- a number for a node and the goals that are left there
abbrev pub state : Graph → ℕ → List ℕ → ℕ
state G a rs = a + G.nodes * length rs

-- one for each node that the walk touches
abbrev pub states : Graph → ℕ → List ℕ → List ℕ → List ℕ
states G a rs [] = state G a rs ∷ []
states G a rs (l ∷ w) = state G a rs ∷ states G (head_of G l) (cross G l rs) w

cross_shrunk : (G : Graph) (l : ℕ) (rs : List ℕ) → Shrunk rs (cross G l rs)
unfolding cross without
cross_shrunk G l rs =
    shrunk_trans (keep_shrunk (λ g. not (eqb g (arc_item G l))) rs)
    (keep_shrunk (λ g. not (eqb g (head_of G l))) (keep (λ g. not (eqb g (arc_item G l))) rs))

module _ (G : Graph) (closed : ℕ → Bool) (b : ℕ) where
  -- a walk from a with the goals rs left there to b with none left, no longer than k, that comes to no state twice
  record Erased (a : ℕ) (rs : List ℕ) (k : ℕ) : Type 0 where
    way : List ℕ
    walk : Walk G closed a b way
    met : rest G rs way ≡ []
    short : len G way ≤ k
    distinct : Distinct (states G a rs way)

  weaken : {a : ℕ} {rs : List ℕ} {k k' : ℕ} → k ≤ k' → Erased a rs k → Erased a rs k'
  weaken h E = record { way = E.way; walk = E.walk; met = E.met; short = omega (arith, E.short); distinct = E.distinct }

  -- the same state: the same node and the same goals left
  here : (a : ℕ) (rs : List ℕ) (a' : ℕ) (rs' : List ℕ) {k : ℕ} → a < G.nodes → a' < G.nodes → Shrunk rs rs' → state G a rs ≡ state G a' rs'
      → Erased a' rs' k → Erased a rs k
  here a rs a' rs' {k} h h' s e E =
      let p = pair_eq G.nodes a (length rs) a' (length rs') h h' e in
      subst (λ (x : ℕ). Erased x rs k) (sym p.0) (subst (λ (r : List ℕ). Erased a' r k) (s.1 (sym p.1)) E)

  -- where a walk comes to the state of a and rs, it can start there
  cut : (a : ℕ) (rs : List ℕ) → a < G.nodes → (a' : ℕ) (rs' : List ℕ) → Shrunk rs rs' → (w : List ℕ) → Walk G closed a' b w → rest G rs' w ≡ []
      → Distinct (states G a' rs' w) → member (state G a rs) (states G a' rs' w) ≡ true → Erased a rs (len G w)
  unfolding member len
  cut a rs h a' rs' s [] W e d m = go (eqb (state G a rs) (state G a' rs')) refl m
    where
      go : (t : Bool) → eqb (state G a rs) (state G a' rs') ≡ t → (t || false) ≡ true → Erased a rs (len G [])
      go true q m' =
          here a rs a' rs' h W.node s (eqb-true (state G a rs) (state G a' rs') q)
          (record { way = []; walk = W; met = e; short = omega arith; distinct = d })
      go false q m' = absurd (false≢true m')
  cut a rs h a' rs' s (l ∷ w) W e d m =
      go (eqb (state G a rs) (state G a' rs')) refl m
      (λ m'. cut a rs h (head_of G l) (cross G l rs') (shrunk_trans s (cross_shrunk G l rs')) w W.1 e d.1 m')
    where
      go : (t : Bool) → eqb (state G a rs) (state G a' rs') ≡ t → (t || member (state G a rs) (states G (head_of G l) (cross G l rs') w)) ≡ true
          → (member (state G a rs) (states G (head_of G l) (cross G l rs') w) ≡ true → Erased a rs (len G w)) → Erased a rs (len G (l ∷ w))
      go true q m' ih =
          here a rs a' rs' h W.0.node s (eqb-true (state G a rs) (state G a' rs') q)
          (record { way = l ∷ w; walk = W; met = e; short = omega arith; distinct = d })
      go false q m' ih = weaken (omega arith) (ih m')

  erase : (w : List ℕ) (a : ℕ) (rs : List ℕ) → Walk G closed a b w → rest G rs w ≡ [] → Erased a rs (len G w)
  unfolding member len
  erase [] a rs W e = record { way = []; walk = W; met = e; short = omega arith; distinct = (refl, tt) }
  erase (l ∷ w) a rs W e = go (erase w (head_of G l) (cross G l rs) W.1 e)
    where
      go : Erased (head_of G l) (cross G l rs) (len G w) → Erased a rs (len G (l ∷ w))
      go E = choose (member (state G a rs) (states G (head_of G l) (cross G l rs) E.way)) refl
        where
          choose : (t : Bool) → member (state G a rs) (states G (head_of G l) (cross G l rs) E.way) ≡ t → Erased a rs (len G (l ∷ w))
          choose true q =
              weaken (omega (arith, E.short))
              (cut a rs W.0.node (head_of G l) (cross G l rs) (cross_shrunk G l rs) E.way E.walk E.met E.distinct q)
          choose false q =
              record { way = l ∷ E.way; walk = (W.0, E.walk); met = E.met; short = omega (arith, E.short); distinct = (q, E.distinct) }

  states_below : (g : ℕ) (w : List ℕ) (a : ℕ) (rs : List ℕ) → Walk G closed a b w → length rs ≤ g → Below (G.nodes * suc g) (states G a rs w)
  states_below g [] a rs W h = (omega (arith, mul-le-mul_left G.nodes h, W.node), tt)
  states_below g (l ∷ w) a rs W h = (
    omega (arith, mul-le-mul_left G.nodes h, W.0.node),
    states_below g w (head_of G l) (cross G l rs) W.1 (omega (arith, (cross_shrunk G l rs).0)),
  )

  length_states : (w : List ℕ) (a : ℕ) (rs : List ℕ) → length (states G a rs w) ≡ suc (length w)
  length_states [] a rs = refl
  length_states (l ∷ w) a rs = ap suc (length_states w (head_of G l) (cross G l rs))

  -- Each walk has another, no longer, that meets the same goals with few arcs.
  pub few_arcs : (w : List ℕ) (a : ℕ) (rs : List ℕ) → Walk G closed a b w → rest G rs w ≡ []
      → (v : List ℕ) × Walk G closed a b v × (rest G rs v ≡ []) × (len G v ≤ len G w) × (length v < G.nodes * suc (length rs))
  few_arcs w a rs W e =
      let E = erase w a rs W e in
      let p = pigeonhole (G.nodes * suc (length rs)) (states G a rs E.way) E.distinct (states_below (length rs) E.way a rs E.walk (omega arith)) in
      (E.way, E.walk, E.met, E.short, rw (← (length_states E.way a rs)) p)
