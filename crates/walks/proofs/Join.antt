-- Walks joined, and what they meet. Assumes nothing.
use Prim.Native.Nat.{ℕ, ◌+◌, ◌<◌}
use mathlib.Core.Path.{◌≡◌, refl, sym, subst}
use mathlib.Core.Logic.{◌⊎◌, inl, inr, ⊎_elim}
use mathlib.Core.Bool.{not, ◌&&◌, Bool, true, false}
use mathlib.Core.List.{List, [], ◌∷◌, ◌++◌}
use native.Mathlib.Omega.{arith}
use Rattle.lists.proofs.MemberLaws.{member_head, member_tail, every_at, every_all, member_cases, member_one}
use Rattle.lists.proofs.TestLaws.{and_true, not_true}
use Rattle.lists.specs.Lists.{member}
use Rattle.walks.specs.Graph.{Graph, head_of, arc_item, items, len, meets, tail_of, chain, clear, fit}
use Rattle.walks.specs.Walk.{Walk}

module _ (G : Graph) where
  pub meets_none : (a : ℕ) (w : List ℕ) → meets G [] a w ≡ true
  unfolding meets
  meets_none a w = refl

  pub meets_all : (gs : List ℕ) (a : ℕ) (w : List ℕ) → ((x : ℕ) → member x gs ≡ true → member x (items G a w) ≡ true) → meets G gs a w ≡ true
  unfolding meets
  meets_all gs a w h = every_all (λ g. member g (items G a w)) gs h

  pub meets_at : (gs : List ℕ) (a : ℕ) (w : List ℕ) (x : ℕ) → meets G gs a w ≡ true → member x gs ≡ true → member x (items G a w) ≡ true
  unfolding meets
  meets_at gs a w x e m = every_at (λ g. member g (items G a w)) gs x e m

  pub len_append : (u v : List ℕ) → len G (u ++ v) ≡ len G u + len G v
  unfolding len
  len_append [] v = omega arith
  len_append (l ∷ u) v = omega (arith, len_append u v)

  pub first_item : (a : ℕ) (w : List ℕ) → member a (items G a w) ≡ true
  unfolding items
  first_item a [] = member_head a []
  first_item a (l ∷ w) = member_head a (arc_item G l ∷ items G (head_of G l) w)

  pub first_arc : (l a : ℕ) (w : List ℕ) → member (arc_item G l) (items G a (l ∷ w)) ≡ true
  unfolding items
  first_arc l a w =
      member_tail (arc_item G l) a (arc_item G l ∷ items G (head_of G l) w) (member_head (arc_item G l) (items G (head_of G l) w))

  -- what a walk with a first arc meets: its first node, the arc, and what it meets behind the arc
  pub items_cases : (x a l : ℕ) (w : List ℕ) → member x (items G a (l ∷ w)) ≡ true
      → (x ≡ a) ⊎ ((x ≡ arc_item G l) ⊎ (member x (items G (head_of G l) w) ≡ true))
  unfolding items
  items_cases x a l w m =
      ⊎_elim inl (λ q. inr (member_cases x (arc_item G l) (items G (head_of G l) w) q)) (member_cases x a (arc_item G l ∷ items G (head_of G l) w) m)

  pub items_later : (x a l : ℕ) (w : List ℕ) → member x (items G (head_of G l) w) ≡ true → member x (items G a (l ∷ w)) ≡ true
  unfolding items
  items_later x a l w m = member_tail x a (arc_item G l ∷ items G (head_of G l) w) (member_tail x (arc_item G l) (items G (head_of G l) w) m)

module _ (G : Graph) (closed : ℕ → Bool) where
  pub walk_append : (a p b : ℕ) (u v : List ℕ) → Walk G closed a p u → Walk G closed p b v → Walk G closed a b (u ++ v)
  walk_append a p b [] v P Q = subst (λ (x : ℕ). Walk G closed x b v) (sym P.there) Q
  walk_append a p b (l ∷ u) v P Q = (P.0, walk_append (head_of G l) p b u v P.1 Q)

  -- the items of the first part are met, and those of the second
  pub items_left : (g a p : ℕ) (u v : List ℕ) → Walk G closed a p u → member g (items G a u) ≡ true → member g (items G a (u ++ v)) ≡ true
  unfolding items
  items_left g a p [] v U e = rw (member_one g a e) (first_item G a v)
  items_left g a p (l ∷ u) v U e =
      ⊎_elim (λ q. rw q (first_item G a (l ∷ (u ++ v))))
      (⊎_elim (λ q. rw q (first_arc G l a (u ++ v))) (λ q. items_later G g a l (u ++ v) (items_left g (head_of G l) p u v U.1 q)))
      (items_cases G g a l u e)

  pub items_right : (g a p : ℕ) (u v : List ℕ) → Walk G closed a p u → member g (items G p v) ≡ true → member g (items G a (u ++ v)) ≡ true
  items_right g a p [] v U e = subst (λ (x : ℕ). member g (items G x v) ≡ true) (sym U.there) e
  items_right g a p (l ∷ u) v U e = items_later G g a l (u ++ v) (items_right g (head_of G l) p u v U.1 e)

  -- the ends of a walk are open nodes
  pub walk_first : (a b : ℕ) (w : List ℕ) → Walk G closed a b w → (a < G.nodes) × (closed a ≡ false)
  walk_first a b [] W = (W.node, W.open_node)
  walk_first a b (l ∷ w) W = (W.0.node, W.0.open_node)

  pub walk_last : (a b : ℕ) (w : List ℕ) → Walk G closed a b w → (b < G.nodes) × (closed b ≡ false)
  walk_last a b [] W = subst (λ (x : ℕ). (x < G.nodes) × (closed x ≡ false)) W.there (W.node, W.open_node)
  walk_last a b (l ∷ w) W = walk_last (head_of G l) b w W.1

-- a walk that uses an arc touches its ends
module _ (G : Graph) (closed : ℕ → Bool) (b : ℕ) where
  ends_met : (l a : ℕ) (w : List ℕ) → Walk G closed a b w → member (arc_item G l) (items G a w) ≡ true
      → (member (tail_of G l) (items G a w) ≡ true) × (member (head_of G l) (items G a w) ≡ true)
  unfolding items arc_item
  ends_met l a [] W e = absurd (omega (arith, W.node, member_one (G.nodes + l) a e))
  ends_met l a (l' ∷ w) W e = go (items_cases G (arc_item G l) a l' w e) (ends_met l (head_of G l') w W.1)
    where
      Met : ℕ → List ℕ → Type 0
      Met a w = (member (tail_of G l) (items G a w) ≡ true) × (member (head_of G l) (items G a w) ≡ true)

      go : (G.nodes + l ≡ a) ⊎ ((G.nodes + l ≡ G.nodes + l') ⊎ (member (G.nodes + l) (items G (head_of G l') w) ≡ true))
          → (member (G.nodes + l) (items G (head_of G l') w) ≡ true → Met (head_of G l') w) → Met a (l' ∷ w)
      go (inl q) ih = absurd (omega (arith, W.0.node))
      go (inr (inl q)) ih =
          let l≡ : l ≡ l' = omega arith in
          (rw (l≡, W.0.leaves) (first_item G a (l' ∷ w)), rw l≡ (items_later G (head_of G l') a l' w (first_item G (head_of G l') w)))
      go (inr (inr q)) ih = let m = ih q in (items_later G (tail_of G l) a l' w m.0, items_later G (head_of G l) a l' w m.1)

  pub end_met : (l p a : ℕ) (w : List ℕ) → Walk G closed a b w → member (arc_item G l) (items G a w) ≡ true → (tail_of G l ≡ p) ⊎ (head_of G l ≡ p)
      → member p (items G a w) ≡ true
  end_met l p a w W m (inl q) = rw (← q) (ends_met l a w W m).0
  end_met l p a w W m (inr q) = rw (← q) (ends_met l a w W m).1

-- a walk touches its last node
pub last_item : (G : Graph) (closed : ℕ → Bool) (a b : ℕ) (w : List ℕ) → Walk G closed a b w → member b (items G a w) ≡ true
unfolding items
last_item G closed a b [] W = rw (← W.there) (member_head a [])
last_item G closed a b (l ∷ w) W = items_later G b a l w (last_item G closed (head_of G l) b w W.1)

-- a walk that fits meets nothing closed
pub fit_clear : (G : Graph) (closed : ℕ → Bool) (goals : List ℕ) (a b : ℕ) (w : List ℕ) (i : ℕ) → fit G closed goals a b w ≡ true
    → member i (items G a w) ≡ true → closed i ≡ false
unfolding fit clear
fit_clear G closed goals a b w i e m =
    let s = and_true (chain G a b w) (clear G closed a w && meets G goals a w) e in
    let t = and_true (clear G closed a w) (meets G goals a w) s.1 in
    not_true (closed i) (every_at (λ i. not (closed i)) (items G a w) i t.0 m)
