-- Two closings of a graph under which nothing that matters differs up to the cap: the lengths from the source and from where each goal is left, to
-- where each goal is entered and to the target, and each goal's own length. Then the least length over the goals is the same up to the cap, by
-- induction over how many goals there are, one goal being the last. Assumes nothing.
use Prim.Native.Nat.{ℕ, zero, suc, ◌+◌, ◌≤◌, ◌<◌}
use mathlib.Core.Path.{◌≡◌, refl, sym, ap, ◌∙◌}
use mathlib.Core.Bool.{Bool, true, not}
use mathlib.Core.List.{List, [], ◌∷◌}
use native.Mathlib.Omega.{arith}
use native.Mathlib.Decide.{dec_lt}
use lib.ListN.{length}
use lib.Dec.{eqb}
use Rattle.lists.specs.Lists.{member, without}
use Rattle.lists.proofs.MemberLaws.{member_head, member_tail}
use Rattle.lists.proofs.Pigeonhole.{keep_shrunk}
use Rattle.walks.specs.Graph.{Graph, least}
use Rattle.walks.specs.Goals.{entry_of, exit_of, own_of, lastly, any_last}
use Rattle.walks.specs.Lengths.{Least, plus, lesser}
use Rattle.walks.proofs.GoalLaws.{Includes, Item, others_without, last_goal}
use Rattle.rows.specs.Held.{missing, held}
use Rattle.rows.proofs.HeldLaws.{Held, holds, is_held, sum_over, sum_both, sum_low, lesser_first, lesser_second}

-- the same, where more than the cap counts as missing
abbrev pub Same : ℕ → Least → Least → Type 0
Same cap p q = held cap p ≡ held cap q

module _ {cap : ℕ} (small : cap < missing) where
  -- two lengths that are held as the same number
  both : {p q : Least} {x : ℕ} → Held cap p x → Held cap q x → Same cap p q
  both P Q = sym (is_held P) ∙ is_held Q

  same_plus : (p p' q q' : Least) → Same cap p p' → Same cap q q' → Same cap (plus p q) (plus p' q')
  same_plus p p' q q' e f = go (dec_lt cap (held cap p)) (dec_lt cap (held cap p + held cap q))
    where
      go : Dec (cap < held cap p) → Dec (cap < held cap p + held cap q) → Same cap (plus p q) (plus p' q')
      go (yes h) d = both (sum_over q h (holds cap p refl)) (sum_over q' h (holds cap p' e))
      go (no h) (yes o) =
          both (sum_both small (omega arith) o (holds cap p refl) (holds cap q refl)) (sum_both small (omega arith) o (holds cap p' e) (holds cap q' f))
      go (no h) (no o) =
          both (sum_low small (omega arith) (holds cap p refl) (holds cap q refl)) (sum_low small (omega arith) (holds cap p' e) (holds cap q' f))

  same_lesser : (p p' q q' : Least) → Same cap p p' → Same cap q q' → Same cap (lesser p q) (lesser p' q')
  same_lesser p p' q q' e f = go (dec_lt (held cap q) (held cap p))
    where
      go : Dec (held cap q < held cap p) → Same cap (lesser p q) (lesser p' q')
      go (yes h) = both (lesser_second small h (holds cap p refl) (holds cap q refl)) (lesser_second small h (holds cap p' e) (holds cap q' f))
      go (no h) =
          both (lesser_first small (omega arith) (holds cap p refl) (holds cap q refl)) (lesser_first small (omega arith) (holds cap p' e) (holds cap q' f))

-- a goal less
without_less : (g : ℕ) (gs : List ℕ) → member g gs ≡ true → length (without g gs) < length gs
unfolding without
without_less g gs m = go (dec_lt (length (without g gs)) (length gs))
  where
    go : Dec (length (without g gs) < length gs) → length (without g gs) < length gs
    go (yes h) = h
    go (no h) =
        let s = keep_shrunk (λ x. not (eqb x g)) gs in
        let e : without g gs ≡ gs = s.1 (omega arith) in
        absurd (((others_without gs g).fewer g (ap (member g) e ∙ m)).1 refl)

-- the goals, the two closings, and the nodes at which a stretch of the walk may end
module _ (G : Graph) (c c' : ℕ → Bool) (cap a : ℕ) (goals : List ℕ) (Stop : ℕ → Type 0) where
  pub record Alike : Type 0 where
    pub small : cap < missing
    pub item : (g : ℕ) → member g goals ≡ true → Item G g
    pub entry : (g : ℕ) → member g goals ≡ true → Stop (entry_of G g)
    pub first : (b : ℕ) → Stop b → Same cap (least G c [] a b) (least G c' [] a b)
    pub rows : (g b : ℕ) → member g goals ≡ true → Stop b → Same cap (least G c [] (exit_of G g) b) (least G c' [] (exit_of G g) b)
    pub own : (g : ℕ) → member g goals ≡ true → Same cap (own_of G c g) (own_of G c' g)

module _ {G : Graph} {c c' : ℕ → Bool} {cap a : ℕ} {goals : List ℕ} {Stop : ℕ → Type 0} (A : Alike G c c' cap a goals Stop) where
  any_same : (gs hs : List ℕ) (b : ℕ) → Stop b → Includes goals hs
      → ((g : ℕ) → member g hs ≡ true → Same cap (least G c (without g gs) a (entry_of G g)) (least G c' (without g gs) a (entry_of G g)))
      → Same cap (any_last G c a b gs hs) (any_last G c' a b gs hs)
  unfolding any_last lastly
  any_same gs [] b s i h = refl
  any_same gs (g ∷ hs) b s i h =
      let m = i g (member_head g hs) in
      same_lesser A.small (lastly G c a b (without g gs) g) (lastly G c' a b (without g gs) g) (any_last G c a b gs hs) (any_last G c' a b gs hs)
      (same_plus A.small (plus (least G c (without g gs) a (entry_of G g)) (own_of G c g)) (plus (least G c' (without g gs) a (entry_of G g)) (own_of G c' g))
      (least G c [] (exit_of G g) b) (least G c' [] (exit_of G g) b)
      (same_plus A.small (least G c (without g gs) a (entry_of G g)) (least G c' (without g gs) a (entry_of G g)) (own_of G c g) (own_of G c' g)
      (h g (member_head g hs)) (A.own g m)) (A.rows g b m s))
      (any_same gs hs b s (λ x n. i x (member_tail x g hs n)) (λ x n. h x (member_tail x g hs n)))

  one_more : (gs : List ℕ) (b : ℕ) → Includes goals gs → Stop b
      → ((x : ℕ) → member x gs ≡ true → Same cap (least G c (without x gs) a (entry_of G x)) (least G c' (without x gs) a (entry_of G x)))
      → Same cap (least G c gs a b) (least G c' gs a b)
  one_more [] b i s h = A.first b s
  one_more (g ∷ gs) b i s h =
      let item : (x : ℕ) → member x (g ∷ gs) ≡ true → Item G x = λ x m. A.item x (i x m) in
      let full : g ∷ gs ≡ [] → ⊥ = λ q. let z : ◌≡◌ {A = ℕ} 0 1 = cc in omega arith in
      ap (held cap) (last_goal G c (g ∷ gs) a b item full)
      ∙ any_same (g ∷ gs) (g ∷ gs) b s i h
      ∙ sym (ap (held cap) (last_goal G c' (g ∷ gs) a b item full))

  least_same : (n : ℕ) (gs : List ℕ) (b : ℕ) → length gs ≤ n → Includes goals gs → Stop b → Same cap (least G c gs a b) (least G c' gs a b)
  least_same zero gs b l i s = one_more gs b i s (λ x m. absurd (omega (arith, without_less x gs m)))
  least_same (suc n) gs b l i s =
      one_more gs b i s
      (λ x m. least_same n (without x gs) (entry_of G x) (omega (arith, without_less x gs m)) (λ y o. i y ((others_without gs x).fewer y o).0)
      (A.entry x (i x m)))

  pub goals_same : (b : ℕ) → Stop b → Same cap (least G c goals a b) (least G c' goals a b)
  goals_same b s = least_same (length goals) goals b (omega arith) (λ x m. m) s
