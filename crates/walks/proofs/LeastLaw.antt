-- The law of `least`: it is the least length over the walks of any number of arcs. Assumes nothing.
use Prim.Native.Nat.{ℕ, zero, suc, ◌*◌, ◌≤◌, ◌<◌, min}
use mathlib.Core.Path.{◌≡◌, refl, sym, ap, ◌∙◌, subst}
use mathlib.Core.Logic.{◌⊎◌, inl, inr}
use mathlib.Core.Bool.{Bool, true, false, not, ◌&&◌, ◌||◌, false≢true}
use mathlib.Core.List.{List, [], ◌∷◌, ◌++◌, map}
use native.Mathlib.Omega.{arith}
use native.Mathlib.Nat.{mul-le-mul_left}
use lib.ListN.{length}
use lib.Dec.{eqb, leb, ltb}
use borrow.Author.Tests.{eqb-true, eq-eqb, ltb-true, lt-ltb, leb-true, leb-false}
use Rattle.lists.proofs.AscendLaws.{member_span}
use Rattle.lists.proofs.Pigeonhole.{keep_shrunk}
use Rattle.lists.proofs.TestLaws.{and_true, true_and, not_true}
use Rattle.lists.specs.Lists.{member, every, keep, add, span, without}
use Rattle.walks.proofs.FewArcs.{cross, rest, few_arcs}
use Rattle.walks.specs.Graph.{Graph, tail_of, head_of, arc_item, chain, items, len, clear, meets, fit, chains, onward, begin, least_of, against, least}
use Rattle.walks.specs.Lengths.{Least, none, some, lesser}
use Rattle.walks.specs.Walk.{Walk}

-- the goals that are not among the items
unfoldable left : List ℕ → List ℕ → List ℕ
left its gs = keep (λ g. not (member g its)) gs

left_cons : (x : ℕ) (its gs : List ℕ) → left its (without x gs) ≡ left (x ∷ its) gs
unfolding left without member keep add
left_cons x its [] = refl
left_cons x its (g ∷ gs) = go (eqb g x) (left_cons x its gs)
  where
    go : (t : Bool) → left its (without x gs) ≡ left (x ∷ its) gs → left its (add (not t) g (without x gs)) ≡ add (not (t || member g its)) g (left (x ∷ its) gs)
    go true ih = ih
    go false ih = ap (add (not (member g its)) g) ih

left_none : (gs : List ℕ) → left [] gs ≡ gs
unfolding left member keep add
left_none [] = refl
left_none (g ∷ gs) = ap (g ∷◌) (left_none gs)

rest_left : (G : Graph) (a : ℕ) (gs w : List ℕ) → rest G (without a gs) w ≡ left (items G a w) gs
unfolding items cross
rest_left G a gs [] = sym (left_none (without a gs)) ∙ left_cons a [] gs
rest_left G a gs (l ∷ w) =
    rest_left G (head_of G l) (without (arc_item G l) (without a gs)) w
    ∙ left_cons (arc_item G l) (items G (head_of G l) w) (without a gs)
    ∙ left_cons a (arc_item G l ∷ items G (head_of G l) w) gs

keep_none : (f : ℕ → Bool) (xs : List ℕ) → keep (λ x. not (f x)) xs ≡ [] → every f xs ≡ true
unfolding keep add
keep_none f [] e = refl
keep_none f (x ∷ xs) e = go (f x) e (keep_none f xs)
  where
    go : (t : Bool) → add (not t) x (keep (λ x. not (f x)) xs) ≡ [] → (keep (λ x. not (f x)) xs ≡ [] → every f xs ≡ true) → (t && every f xs) ≡ true
    go true e' ih = ih e'
    go false e' ih = cc

none_keep : (f : ℕ → Bool) (xs : List ℕ) → every f xs ≡ true → keep (λ x. not (f x)) xs ≡ []
unfolding keep add
none_keep f [] e = refl
none_keep f (x ∷ xs) e = let s = and_true (f x) (every f xs) e in rw s.0 (none_keep f xs s.1)

meets_rest : (G : Graph) (goals : List ℕ) (a : ℕ) (w : List ℕ) → meets G goals a w ≡ true → rest G (without a goals) w ≡ []
unfolding meets left
meets_rest G goals a w e = rest_left G a goals w ∙ none_keep (λ g. member g (items G a w)) goals e

rest_meets : (G : Graph) (goals : List ℕ) (a : ℕ) (w : List ℕ) → rest G (without a goals) w ≡ [] → meets G goals a w ≡ true
unfolding meets left
rest_meets G goals a w e = keep_none (λ g. member g (items G a w)) goals (sym (rest_left G a goals w) ∙ e)

module _ (G : Graph) (closed : ℕ → Bool) (goals : List ℕ) (b : ℕ) where
  walk_of : (a : ℕ) (w : List ℕ) → chain G a b w ≡ true → clear G closed a w ≡ true → Walk G closed a b w
  unfolding chain clear items
  walk_of a [] p q =
      let s = and_true (ltb a G.nodes) (eqb a b) p in
      let t = and_true (not (closed a)) true q in
      record { node = ltb-true a G.nodes s.0; open_node = not_true (closed a) t.0; there = eqb-true a b s.1 }
  walk_of a (l ∷ w) p q =
      let s = and_true (ltb a G.nodes) (ltb l (length G.arcs) && (eqb (tail_of G l) a && chain G (head_of G l) b w)) p in
      let s₁ = and_true (ltb l (length G.arcs)) (eqb (tail_of G l) a && chain G (head_of G l) b w) s.1 in
      let s₂ = and_true (eqb (tail_of G l) a) (chain G (head_of G l) b w) s₁.1 in
      let t = and_true (not (closed a)) (not (closed (arc_item G l)) && clear G closed (head_of G l) w) q in
      let t₁ = and_true (not (closed (arc_item G l))) (clear G closed (head_of G l) w) t.1 in (
        record {
          node = ltb-true a G.nodes s.0;
          open_node = not_true (closed a) t.0;
          arc = ltb-true l (length G.arcs) s₁.0;
          open_arc = not_true (closed (arc_item G l)) t₁.0;
          leaves = eqb-true (tail_of G l) a s₂.0;
        },
        walk_of (head_of G l) w s₂.1 t₁.1,
      )

  of_walk : (a : ℕ) (w : List ℕ) → Walk G closed a b w → (chain G a b w ≡ true) × (clear G closed a w ≡ true)
  unfolding chain clear items
  of_walk a [] W =
      (true_and (lt-ltb a G.nodes W.node) (eq-eqb a b W.there), rw W.open_node)
  of_walk a (l ∷ w) W =
      let r = of_walk (head_of G l) w W.1 in (
        true_and (lt-ltb a G.nodes W.0.node)
            (true_and (lt-ltb l (length G.arcs) W.0.arc) (true_and (eq-eqb (tail_of G l) a W.0.leaves) r.0)),
        rw (W.0.open_node, W.0.open_arc) r.1,
      )

  -- a walk that fits, taken apart
  pub fit_walk : (a : ℕ) (w : List ℕ) → fit G closed goals a b w ≡ true → Walk G closed a b w × (meets G goals a w ≡ true)
  unfolding fit
  fit_walk a w e =
      let s = and_true (chain G a b w) (clear G closed a w && meets G goals a w) e in
      let t = and_true (clear G closed a w) (meets G goals a w) s.1 in
      (walk_of a w s.0 t.0, t.1)

  pub walk_fit : (a : ℕ) (w : List ℕ) → Walk G closed a b w → meets G goals a w ≡ true → fit G closed goals a b w ≡ true
  unfolding fit
  walk_fit a w W m = let r = of_walk a w W in true_and r.0 (true_and r.1 m)

-- w is an entry of the list
abbrev pub In : List ℕ → List (List ℕ) → Type 0
In w [] = ⊥
In w (v ∷ vs) = (w ≡ v) ⊎ In w vs

in_left : (w : List ℕ) (us vs : List (List ℕ)) → In w us → In w (us ++ vs)
in_left w [] vs i = absurd i
in_left w (u ∷ us) vs (inl e) = inl e
in_left w (u ∷ us) vs (inr i) = inr (in_left w us vs i)

in_right : (w : List ℕ) (us vs : List (List ℕ)) → In w vs → In w (us ++ vs)
in_right w [] vs i = i
in_right w (u ∷ us) vs i = inr (in_right w us vs i)

in_map : (l : ℕ) (w : List ℕ) (vs : List (List ℕ)) → In w vs → In (l ∷ w) (map (λ w. l ∷ w) vs)
in_map l w [] i = i
in_map l w (v ∷ vs) (inl e) = inl (ap (l ∷◌) e)
in_map l w (v ∷ vs) (inr i) = inr (in_map l w vs i)

in_onward : (G : Graph) (p : ℕ) (f : ℕ → List (List ℕ)) (l : ℕ) (w : List ℕ) (ls : List ℕ) → member l ls ≡ true → tail_of G l ≡ p → In w (f l)
    → In (l ∷ w) (onward G p f ls)
unfolding onward member begin
in_onward G p f l w [] m e i = absurd (false≢true m)
in_onward G p f l w (k ∷ ls) m e i = go (eqb l k) refl m (λ m'. in_onward G p f l w ls m' e i)
  where
    go : (t : Bool) → eqb l k ≡ t → (t || member l ls) ≡ true → (member l ls ≡ true → In (l ∷ w) (onward G p f ls))
        → In (l ∷ w) (begin (eqb (tail_of G k) p) k f ++ onward G p f ls)
    go true q m' ih =
        let k≡ : l ≡ k = eqb-true l k q in
        let t≡ : eqb (tail_of G k) p ≡ true = eq-eqb (tail_of G k) p (ap (tail_of G) (sym k≡) ∙ e) in
        rw t≡ (in_left (l ∷ w) (map (λ w. k ∷ w) (f k)) (onward G p f ls)
        (subst (λ (x : ℕ). In (l ∷ w) (map (λ w. x ∷ w) (f x))) k≡ (in_map l w (f l) i)))
    go false q m' ih = in_right (l ∷ w) (begin (eqb (tail_of G k) p) k f) (onward G p f ls) (ih m')

chains_all : (G : Graph) (closed : ℕ → Bool) (b k a : ℕ) (w : List ℕ) → Walk G closed a b w → length w < k → In w (chains G k a)
unfolding chains
chains_all G closed b zero a w W h = absurd (omega arith)
chains_all G closed b (suc k) a [] W h = inl refl
chains_all G closed b (suc k) a (l ∷ w) W h =
    inr (in_onward G a (λ l. chains G k (head_of G l)) l w (span (length G.arcs) 0)
    (member_span (length G.arcs) 0 l (omega arith) (omega (arith, W.0.arc))) W.0.leaves
    (chains_all G closed b k (head_of G l) w W.1 (omega arith)))

-- r is at most k
abbrev pub Upto : Least → ℕ → Type 0
Upto none k = ⊥
Upto (some a) k = a ≤ k

-- r, if it is a number, is the length of a walk that passes the test
abbrev pub Attained : Graph → (List ℕ → Bool) → Least → Type 0
Attained G ok none = Unit {0}
Attained G ok (some k) = (w : List ℕ) × (ok w ≡ true) × (len G w ≡ k)

upto_first : (a : ℕ) (r : Least) (k : ℕ) → a ≤ k → Upto (lesser (some a) r) k
unfolding lesser
upto_first a none k h = h
upto_first a (some b) k h = omega arith

upto_second : (a : ℕ) (r : Least) (k : ℕ) → Upto r k → Upto (lesser (some a) r) k
unfolding lesser
upto_second a none k h = absurd h
upto_second a (some b) k h = omega arith

pub upto_le : (r : Least) (j k : ℕ) → Upto r j → j ≤ k → Upto r k
upto_le none j k h g = h
upto_le (some a) j k h g = omega arith

module _ (G : Graph) (ok : List ℕ → Bool) where
  attained_lesser : (w : List ℕ) (r : Least) → ok w ≡ true → Attained G ok r → Attained G ok (lesser (some (len G w)) r)
  unfolding lesser
  attained_lesser w none e t = (w, e, refl)
  attained_lesser w (some b) e t = go (leb (len G w) b) refl
    where
      go : (s : Bool) → leb (len G w) b ≡ s → (v : List ℕ) × (ok v ≡ true) × (len G v ≡ min (len G w) b)
      go true q = (w, e, omega (arith, leb-true (len G w) b q))
      go false q = (t.0, t.1, omega (arith, t.2, leb-false (len G w) b q))

  attained_least_of : (ws : List (List ℕ)) → Attained G ok (least_of G ok ws)
  unfolding least_of against
  attained_least_of [] = tt
  attained_least_of (w ∷ ws) = go (ok w) refl (attained_least_of ws)
    where
      go : (s : Bool) → ok w ≡ s → Attained G ok (least_of G ok ws) → Attained G ok (against s (len G w) (least_of G ok ws))
      go true q ih = attained_lesser w (least_of G ok ws) q ih
      go false q ih = ih

  upto_least_of : (ws : List (List ℕ)) (w : List ℕ) → In w ws → ok w ≡ true → Upto (least_of G ok ws) (len G w)
  unfolding least_of against
  upto_least_of [] w i e = i
  upto_least_of (v ∷ ws) w (inl p) e =
      let q : ok v ≡ true = subst (λ (u : List ℕ). ok u ≡ true) p e in
      rw (q, p) (upto_first (len G v) (least_of G ok ws) (len G v) (omega arith))
  upto_least_of (v ∷ ws) w (inr i) e = go (ok v) (upto_least_of ws w i e)
    where
      go : (s : Bool) → Upto (least_of G ok ws) (len G w) → Upto (against s (len G v) (least_of G ok ws)) (len G w)
      go true h = upto_second (len G v) (least_of G ok ws) (len G w) h
      go false h = h

-- r is the least length of the walks that fit, of whatever number of arcs
pub record IsLeast (G : Graph) (closed : ℕ → Bool) (goals : List ℕ) (a b : ℕ) (r : Least) : Type 0 where
  pub attained : Attained G (fit G closed goals a b) r
  pub lower : (w : List ℕ) → fit G closed goals a b w ≡ true → Upto r (len G w)

without_length : (x : ℕ) (xs : List ℕ) → length (without x xs) ≤ length xs
unfolding without
without_length x xs = (keep_shrunk (λ g. not (eqb g x)) xs).0

-- a walk that fits has another, no longer, with few arcs
pub short_fit : (G : Graph) (closed : ℕ → Bool) (goals : List ℕ) (a b : ℕ) (w : List ℕ) → fit G closed goals a b w ≡ true
    → (v : List ℕ) × (fit G closed goals a b v ≡ true) × (len G v ≤ len G w) × (length v < G.nodes * suc (length goals))
short_fit G closed goals a b w e =
    let f = fit_walk G closed goals b a w e in
    let v = few_arcs G closed b w a (without a goals) f.0 (meets_rest G goals a w f.1) in (
      v.0,
      walk_fit G closed goals b a v.0 v.1 (rest_meets G goals a v.0 v.2),
      v.3,
      omega (arith, v.4, mul-le-mul_left G.nodes (without_length a goals)),
    )

pub is_least : (G : Graph) (closed : ℕ → Bool) (goals : List ℕ) (a b : ℕ) → IsLeast G closed goals a b (least G closed goals a b)
unfolding least
is_least G closed goals a b =
    record { attained = attained_least_of G (fit G closed goals a b) (chains G (G.nodes * suc (length goals)) a); lower = low }
  where
    low : (w : List ℕ) → fit G closed goals a b w ≡ true
        → Upto (least_of G (fit G closed goals a b) (chains G (G.nodes * suc (length goals)) a)) (len G w)
    low w e =
        let v = short_fit G closed goals a b w e in
        let i = chains_all G closed b (G.nodes * suc (length goals)) a v.0 (fit_walk G closed goals b a v.0 v.1).0 v.3 in
        upto_le (least_of G (fit G closed goals a b) (chains G (G.nodes * suc (length goals)) a)) (len G v.0) (len G w)
        (upto_least_of G (fit G closed goals a b) (chains G (G.nodes * suc (length goals)) a) v.0 i v.1) v.2

pub least_unique : (G : Graph) (closed : ℕ → Bool) (goals : List ℕ) (a b : ℕ) (r s : Least) → IsLeast G closed goals a b r → IsLeast G closed goals a b s → r ≡ s
least_unique G closed goals a b none none p q = refl
least_unique G closed goals a b none (some y) p q = absurd (p.lower q.attained.0 q.attained.1)
least_unique G closed goals a b (some x) none p q = absurd (q.lower p.attained.0 p.attained.1)
least_unique G closed goals a b (some x) (some y) p q =
    let i = p.lower q.attained.0 q.attained.1 in
    let j = q.lower p.attained.0 p.attained.1 in
    ap some (omega (arith, p.attained.2, q.attained.2))
