-- Propositions 1 and 2 of source document 002: the least length through a node and through an arc. Each is the law of the last goal for one goal.
-- Assumes nothing.
use Prim.Native.Nat.{ℕ, ◌<◌}
use mathlib.Core.Path.{◌≡◌, refl, ap, ◌∙◌}
use mathlib.Core.Bool.{Bool, false}
use mathlib.Core.List.{[], ◌∷◌}
use native.Mathlib.Omega.{arith}
use lib.ListN.{length}
use borrow.Author.Tests.{eq-eqb}
use Rattle.lists.proofs.MemberLaws.{member_one}
use Rattle.lists.specs.Lists.{without, keep, add}
use Rattle.walks.proofs.GoalLaws.{Item, node, arc, last_goal, entry_node, exit_node, own_node, entry_arc, exit_arc, own_arc}
use Rattle.walks.specs.Goals.{entry_of, exit_of, own_of, lastly, any_last}
use Rattle.walks.specs.Graph.{Graph, tail_of, head_of, weight_of, arc_item, least}
use Rattle.walks.specs.Lengths.{Least, none, some, lesser, plus}

lesser_none : (r : Least) → lesser r none ≡ r
unfolding lesser
lesser_none none = refl
lesser_none (some a) = refl

plus_zero : (r : Least) → plus r (some 0) ≡ r
unfolding plus
plus_zero none = refl
plus_zero (some a) = ap some (omega arith)

without_self : (g : ℕ) → without g (g ∷ []) ≡ []
unfolding without keep add
without_self g = rw (eq-eqb g g refl)

module _ (G : Graph) (closed : ℕ → Bool) where
  -- through one item: to its entry, over it, and on from its exit
  pub through_one : (g a b : ℕ) → Item G g
      → least G closed (g ∷ []) a b ≡ plus (plus (least G closed [] a (entry_of G g)) (own_of G closed g)) (least G closed [] (exit_of G g) b)
  unfolding any_last lastly
  through_one g a b i =
      last_goal G closed (g ∷ []) a b (λ h m. rw (member_one h g m) i) (λ e. let z : ◌≡◌ {A = ℕ} 0 1 = cc in omega arith) ∙ rw (without_self g) (lesser_none _)

  -- Proposition 1
  pub through_node : (p a b : ℕ) → p < G.nodes → least G closed (p ∷ []) a b ≡ plus (least G closed [] a p) (least G closed [] p b)
  through_node p a b h = through_one p a b (node h) ∙ rw (entry_node G p h, exit_node G p h, own_node G closed p h, plus_zero (least G closed [] a p))

  -- Proposition 2
  pub through_arc : (l a b : ℕ) → l < length G.arcs → closed (arc_item G l) ≡ false
      → least G closed (arc_item G l ∷ []) a b ≡ plus (plus (least G closed [] a (tail_of G l)) (some (weight_of G l))) (least G closed [] (head_of G l) b)
  through_arc l a b h o = through_one (arc_item G l) a b (arc l h) ∙ rw (entry_arc G l, exit_arc G l, own_arc G closed l o)
