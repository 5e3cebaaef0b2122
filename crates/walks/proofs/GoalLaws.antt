-- The least length by the goal whose first meeting is the last along the walk. Assumes nothing.
use Prim.Native.Nat.{ℕ, ◌+◌, ◌-◌, ◌<◌}
use mathlib.Core.Path.{◌≡◌, refl, sym, ap, ◌∙◌, subst}
use mathlib.Core.Logic.{◌⊎◌, inl, inr, ⊎_elim}
use mathlib.Core.Bool.{Bool, true, false, not, true≢false}
use mathlib.Core.List.{List, [], ◌∷◌, ◌++◌}
use native.Mathlib.Omega.{arith}
use lib.ListN.{length}
use lib.Dec.{eqb, leb}
use borrow.Author.Tests.{leb-true, leb-false, eqb-true, eqb-false, lt-ltb, le-ltb}
use Rattle.lists.proofs.MemberLaws.{member_head, member_tail, member_cases, member_none, member_one, member_keep, keep_member}
use Rattle.lists.proofs.TestLaws.{not_true, true_or_false}
use Rattle.lists.specs.Lists.{member, without}
use Rattle.walks.proofs.Join.{meets_none, meets_all, meets_at, len_append, first_item, first_arc, items_cases, items_later, walk_append, items_left, items_right, walk_first, walk_last}
use Rattle.walks.proofs.LeastLaw.{fit_walk, walk_fit, Upto, upto_le, Attained, is_least, least_unique}
use Rattle.walks.specs.Goals.{entry_of, exit_of, over, own_of, lastly, any_last}
use Rattle.walks.specs.Graph.{Graph, tail_of, head_of, weight_of, arc_item, items, len, meets, fit, least}
use Rattle.walks.specs.Lengths.{Least, none, some, lesser, plus}
use Rattle.walks.specs.Walk.{Step, Walk}

-- each goal of hs is one of gs
abbrev pub Includes : List ℕ → List ℕ → Type 0
Includes gs hs = (x : ℕ) → member x hs ≡ true → member x gs ≡ true

-- where a goal is entered and left, by the kind of goal
pub entry_node : (G : Graph) (g : ℕ) → g < G.nodes → entry_of G g ≡ g
unfolding entry_of
entry_node G g h = rw (lt-ltb g G.nodes h)

pub exit_node : (G : Graph) (g : ℕ) → g < G.nodes → exit_of G g ≡ g
unfolding exit_of
exit_node G g h = rw (lt-ltb g G.nodes h)

pub own_node : (G : Graph) (closed : ℕ → Bool) (g : ℕ) → g < G.nodes → own_of G closed g ≡ some 0
unfolding own_of over
own_node G closed g h = rw (lt-ltb g G.nodes h)

pub entry_arc : (G : Graph) (l : ℕ) → entry_of G (arc_item G l) ≡ tail_of G l
unfolding entry_of arc_item
entry_arc G l =
    let e : G.nodes + l - G.nodes ≡ l = omega arith in
    rw (le-ltb (G.nodes + l) G.nodes (omega arith), e)

pub exit_arc : (G : Graph) (l : ℕ) → exit_of G (arc_item G l) ≡ head_of G l
unfolding exit_of arc_item
exit_arc G l =
    let e : G.nodes + l - G.nodes ≡ l = omega arith in
    rw (le-ltb (G.nodes + l) G.nodes (omega arith), e)

pub own_arc : (G : Graph) (closed : ℕ → Bool) (l : ℕ) → closed (arc_item G l) ≡ false → own_of G closed (arc_item G l) ≡ some (weight_of G l)
unfolding own_of over arc_item
own_arc G closed l o =
    let e : G.nodes + l - G.nodes ≡ l = omega arith in
    rw (le-ltb (G.nodes + l) G.nodes (omega arith), e, o)

pub own_shut : (G : Graph) (closed : ℕ → Bool) (l : ℕ) → closed (arc_item G l) ≡ true → own_of G closed (arc_item G l) ≡ none
unfolding own_of over arc_item
own_shut G closed l o = rw (le-ltb (G.nodes + l) G.nodes (omega arith), o)

-- a goal is a node or an arc
pub data Item (G : Graph) : ℕ → Type 0 where
  node : {g : ℕ} → g < G.nodes → Item G g
  arc : (l : ℕ) → l < length G.arcs → Item G (arc_item G l)

-- hs are the goals of gs other than g
pub record Others (gs : List ℕ) (g : ℕ) (hs : List ℕ) : Type 0 where
  pub fewer : (x : ℕ) → member x hs ≡ true → (member x gs ≡ true) × (x ≡ g → ⊥)
  pub more : (x : ℕ) → member x gs ≡ true → (x ≡ g) ⊎ (member x hs ≡ true)

pub others_without : (gs : List ℕ) (g : ℕ) → Others gs g (without g gs)
unfolding without
others_without gs g = record {
  fewer = λ x m. let k = keep_member (λ x. not (eqb x g)) x gs m in (k.0, λ q. eqb-false x g (not_true (eqb x g) k.1) q);
  more = λ x m. ⊎_elim (λ q. inl (eqb-true x g q)) (λ q. inr (member_keep (λ x. not (eqb x g)) x gs m (rw q))) (true_or_false (eqb x g));
}

empty : (xs : List ℕ) → (xs ≡ []) ⊎ (xs ≡ [] → ⊥)
empty [] = inl refl
empty (x ∷ xs) = inr (λ e. let z : ◌≡◌ {A = ℕ} 0 1 = cc in omega arith)

some_member : (xs : List ℕ) → (xs ≡ [] → ⊥) → (x : ℕ) × (member x xs ≡ true)
some_member [] n = absurd (n refl)
some_member (x ∷ xs) n = (x, member_head x xs)

module _ (G : Graph) (closed : ℕ → Bool) (b : ℕ) where
  -- A walk of length k from a that meets the goals gs, split at the goal that is met last.
  record Parted (a : ℕ) (gs : List ℕ) (k : ℕ) : Type 0 where
    goal : ℕ
    among : member goal gs ≡ true
    to : List ℕ
    from : List ℕ
    walk_to : Walk G closed a (entry_of G goal) to
    walk_from : Walk G closed (exit_of G goal) b from
    own : ℕ
    own_is : own_of G closed goal ≡ some own
    total : len G to + own + len G from ≡ k
    met : (x : ℕ) → member x gs ≡ true → (x ≡ goal → ⊥) → member x (items G a to) ≡ true

  -- every goal is the first node
  part_node : (a : ℕ) (gs w : List ℕ) → Walk G closed a b w → (gs ≡ [] → ⊥) → ((x : ℕ) → member x gs ≡ true → x ≡ a) → Parted a gs (len G w)
  unfolding len
  part_node a gs w W n all =
      let h = walk_first G closed a b w W in
      let y = some_member gs n in
      record {
        goal = a;
        among = subst (λ (x : ℕ). member x gs ≡ true) (all y.0 y.1) y.1;
        to = [];
        from = w;
        walk_to = rw (entry_node G a h.0) (record { node = h.0; open_node = h.1; there = refl });
        walk_from = rw (exit_node G a h.0) W;
        own = 0;
        own_is = own_node G closed a h.0;
        total = omega arith;
        met = λ x q m. absurd (m (all x q));
      }

  -- the first arc is a goal, and at most the first node besides
  part_arc : (a l : ℕ) (gs w : List ℕ) → Step G closed a l → Walk G closed (head_of G l) b w → member (arc_item G l) gs ≡ true
      → ((x : ℕ) → member x gs ≡ true → (x ≡ a) ⊎ (x ≡ arc_item G l)) → Parted a gs (len G (l ∷ w))
  unfolding len
  part_arc a l gs w S W m all =
      record {
        goal = arc_item G l;
        among = m;
        to = [];
        from = w;
        walk_to = rw (entry_arc G l) (record { node = S.node; open_node = S.open_node; there = sym S.leaves });
        walk_from = rw (exit_arc G l) W;
        own = weight_of G l;
        own_is = own_arc G closed l S.open_arc;
        total = omega arith;
        met = λ x q n. ⊎_elim (λ e. rw e (first_item G a [])) (λ e. absurd (n e)) (all x q);
      }

  -- the goals hs are met behind the first arc, and the others are its item and the first node
  part_later : (a l : ℕ) (gs hs w : List ℕ) → Step G closed a l → Includes gs hs
      → ((x : ℕ) → member x gs ≡ true → (x ≡ a) ⊎ ((x ≡ arc_item G l) ⊎ (member x hs ≡ true))) → Parted (head_of G l) hs (len G w) → Parted a gs (len G (l ∷ w))
  unfolding len
  part_later a l gs hs w S i all P =
      record {
        goal = P.goal;
        among = i P.goal P.among;
        to = l ∷ P.to;
        from = P.from;
        walk_to = (S, P.walk_to);
        walk_from = P.walk_from;
        own = P.own;
        own_is = P.own_is;
        total = omega (arith, P.total);
        met = λ x q n.
            ⊎_elim (λ e. rw e (first_item G a (l ∷ P.to))) (⊎_elim (λ e. rw e (first_arc G l a P.to)) (λ m. items_later G x a l P.to (P.met x m n))) (all x q);
      }

  part : (w : List ℕ) (a : ℕ) (gs : List ℕ) → Walk G closed a b w → meets G gs a w ≡ true → (gs ≡ [] → ⊥) → Parted a gs (len G w)
  unfolding items
  part [] a gs W e n = part_node a gs [] W n (λ x q. member_one x a (meets_at G gs a [] x e q))
  part (l ∷ w) a gs W e n = go (empty hs) (part w (head_of G l) hs W.1 (meets_all G hs (head_of G l) w behind))
    where
      i : ℕ
      i = arc_item G l

      hs : List ℕ
      hs = without i (without a gs)

      kinds : (x : ℕ) → member x gs ≡ true → (x ≡ a) ⊎ ((x ≡ i) ⊎ (member x hs ≡ true))
      kinds x q = ⊎_elim inl (λ r. inr ((others_without (without a gs) i).more x r)) ((others_without gs a).more x q)

      fewer : (x : ℕ) → member x hs ≡ true → (member x gs ≡ true) × (x ≡ a → ⊥) × (x ≡ i → ⊥)
      fewer x q =
          let r = (others_without (without a gs) i).fewer x q in
          let s = (others_without gs a).fewer x r.0 in
          (s.0, s.1, r.1)

      behind : (x : ℕ) → member x hs ≡ true → member x (items G (head_of G l) w) ≡ true
      behind x q =
          let f = fewer x q in
          ⊎_elim (λ p. absurd (f.1 p)) (⊎_elim (λ p. absurd (f.2 p)) (λ p. p)) (items_cases G x a l w (meets_at G gs a (l ∷ w) x e f.0))

      here : hs ≡ [] → (member i gs ≡ true) ⊎ (member i gs ≡ false) → Parted a gs (len G (l ∷ w))
      here q (inl m) = part_arc a l gs w W.0 W.1 m (λ x p. ⊎_elim inl (⊎_elim inr (λ r. absurd (member_none x (rw q at r)))) (kinds x p))
      here q (inr m) = part_node a gs (l ∷ w) W n (λ x p. ⊎_elim (λ r. r) (⊎_elim (λ r. absurd (true≢false (sym (rw r at p) ∙ m))) (λ r. absurd (member_none x (rw q at r)))) (kinds x p))

      go : (hs ≡ []) ⊎ (hs ≡ [] → ⊥) → ((hs ≡ [] → ⊥) → Parted (head_of G l) hs (len G w)) → Parted a gs (len G (l ∷ w))
      go (inl q) ih = here q (true_or_false (member i gs))
      go (inr q) ih = part_later a l gs hs w W.0 (λ x q. (fewer x q).0) kinds (ih q)

plus_upto : (x y : Least) (j k : ℕ) → Upto x j → Upto y k → Upto (plus x y) (j + k)
unfolding plus
plus_upto none y j k h g = absurd h
plus_upto (some a) none j k h g = absurd g
plus_upto (some a) (some b) j k h g = omega arith

-- r is at most x
abbrev pub Under : Least → Least → Type 0
Under r none = Unit {0}
Under r (some k) = Upto r k

under_upto : (r x : Least) (k : ℕ) → Under r x → Upto x k → Upto r k
under_upto r none k u h = absurd h
under_upto r (some j) k u h = upto_le r j k u h

-- r is the least of `lastly` over the goals gs: it is one of these, and at most each
pub record Lasts (G : Graph) (closed : ℕ → Bool) (gs : List ℕ) (a b : ℕ) (r : Least) : Type 0 where
  pub one : (k : ℕ) → r ≡ some k → (g : ℕ) × (hs : List ℕ) × (member g gs ≡ true) × Others gs g hs × (lastly G closed a b hs g ≡ some k)
  pub all : (g : ℕ) → member g gs ≡ true → (hs : List ℕ) × Others gs g hs × Under r (lastly G closed a b hs g)

-- the way over a goal
record Over (G : Graph) (closed : ℕ → Bool) (g k : ℕ) : Type 0 where
  way : List ℕ
  walk : Walk G closed (entry_of G g) (exit_of G g) way
  long : len G way ≡ k
  met : member g (items G (entry_of G g) way) ≡ true

over_goal : (G : Graph) (closed : ℕ → Bool) (g k : ℕ) → Item G g → own_of G closed g ≡ some k → (entry_of G g < G.nodes) × (closed (entry_of G g) ≡ false)
    → (exit_of G g < G.nodes) × (closed (exit_of G g) ≡ false) → Over G closed g k
unfolding len
over_goal G closed g k (node h) e s t =
    let q : some 0 ≡ some k = sym (own_node G closed g h) ∙ e in
    record {
      way = [];
      walk = record { node = s.0; open_node = s.1; there = entry_node G g h ∙ sym (exit_node G g h) };
      long = cc;
      met = rw (entry_node G g h) (first_item G g []);
    }
over_goal G closed _ k (arc l h) e s t = go (true_or_false (closed (arc_item G l)))
  where
    go : (closed (arc_item G l) ≡ true) ⊎ (closed (arc_item G l) ≡ false) → Over G closed (arc_item G l) k
    go (inl o) = let q : none ≡ some k = sym (own_shut G closed l o) ∙ e in let z : ◌≡◌ {A = ℕ} 0 1 = cc in absurd (omega arith)
    go (inr o) =
        let q : some (weight_of G l) ≡ some k = sym (own_arc G closed l o) ∙ e in
        let q' : weight_of G l ≡ k = cc in
        let s' = rw (entry_arc G l) at s in
        let t' = rw (exit_arc G l) at t in
        record {
          way = l ∷ [];
          walk = rw (entry_arc G l, exit_arc G l) (
            record { node = s'.0; open_node = s'.1; arc = h; open_arc = o; leaves = refl },
            record { node = t'.0; open_node = t'.1; there = refl },
          );
          long = omega (arith, q');
          met = first_arc G l (entry_of G (arc_item G l)) [];
        }

pub impossible : {A : Type 0} {k : ℕ} → none ≡ some k → A
impossible {k = k} e = let z : ◌≡◌ {A = ℕ} 0 1 = cc in absurd (omega arith)

pub some_inj : {j k : ℕ} → some j ≡ some k → j ≡ k
some_inj e = cc

module _ (G : Graph) (closed : ℕ → Bool) (gs : List ℕ) (a b : ℕ) where
  -- a walk that meets the other goals, then the way over g, then a walk to b
  joined : (g j m n : ℕ) (hs : List ℕ) → Item G g → Others gs g hs → own_of G closed g ≡ some m → Attained G (fit G closed hs a (entry_of G g)) (some j)
      → Attained G (fit G closed [] (exit_of G g) b) (some n) → Attained G (fit G closed gs a b) (some (j + m + n))
  joined g j m n hs i o e P Q =
      let f = fit_walk G closed hs (entry_of G g) a P.0 P.1 in
      let F = (fit_walk G closed [] b (exit_of G g) Q.0 Q.1).0 in
      let X = over_goal G closed g m i e (walk_last G closed a (entry_of G g) P.0 f.0) (walk_first G closed (exit_of G g) b Q.0 F) in
      let R = walk_append G closed (entry_of G g) (exit_of G g) b X.way Q.0 X.walk F in
      let met : (x : ℕ) → member x gs ≡ true → member x (items G a (P.0 ++ (X.way ++ Q.0))) ≡ true = λ x h. go X.way X.walk X.met f.0 f.1 x (o.more x h) in (
        P.0 ++ (X.way ++ Q.0),
        walk_fit G closed gs b a (P.0 ++ (X.way ++ Q.0)) (walk_append G closed a (entry_of G g) b P.0 (X.way ++ Q.0) f.0 R)
            (meets_all G gs a (P.0 ++ (X.way ++ Q.0)) met),
        len_append G P.0 (X.way ++ Q.0) ∙ omega (arith, len_append G X.way Q.0, P.2, X.long, Q.2),
      )
    where
      go : (way : List ℕ) → Walk G closed (entry_of G g) (exit_of G g) way → member g (items G (entry_of G g) way) ≡ true
          → Walk G closed a (entry_of G g) P.0 → meets G hs a P.0 ≡ true → (x : ℕ) → (x ≡ g) ⊎ (member x hs ≡ true)
          → member x (items G a (P.0 ++ (way ++ Q.0))) ≡ true
      go way X m U h x (inl q) =
          rw q (items_right G closed g a (entry_of G g) P.0 (way ++ Q.0) U (items_left G closed g (entry_of G g) (exit_of G g) way Q.0 X m))
      go way X m U h x (inr q) = items_left G closed x a (entry_of G g) P.0 (way ++ Q.0) U (meets_at G hs a P.0 x h q)

  -- `lastly` is the length of a walk that meets the goals
  lastly_attained : (g k : ℕ) (hs : List ℕ) → Item G g → Others gs g hs → lastly G closed a b hs g ≡ some k → Attained G (fit G closed gs a b) (some k)
  unfolding lastly plus
  lastly_attained g k hs i o e =
      go (least G closed hs a (entry_of G g)) (own_of G closed g) (least G closed [] (exit_of G g) b) refl
      (is_least G closed hs a (entry_of G g)).attained (is_least G closed [] (exit_of G g) b).attained e
    where
      go : (x y z : Least) → own_of G closed g ≡ y → Attained G (fit G closed hs a (entry_of G g)) x → Attained G (fit G closed [] (exit_of G g) b) z
          → plus (plus x y) z ≡ some k → Attained G (fit G closed gs a b) (some k)
      go none y z q P Q e = impossible e
      go (some j) none z q P Q e = impossible e
      go (some j) (some m) none q P Q e = impossible e
      go (some j) (some m) (some n) q P Q e =
          subst (λ (x : ℕ). Attained G (fit G closed gs a b) (some x)) (some_inj e) (joined g j m n hs i o q P Q)

  -- no walk that meets the goals is shorter than `lastly` of the goal that it meets last
  lastly_lower : (w : List ℕ) → (gs ≡ [] → ⊥) → fit G closed gs a b w ≡ true
      → (g : ℕ) × (member g gs ≡ true) × ((hs : List ℕ) → Others gs g hs → Upto (lastly G closed a b hs g) (len G w))
  unfolding lastly
  lastly_lower w n e =
      let f = fit_walk G closed gs b a w e in
      let L = part G closed b w a gs f.0 f.1 n in
      (L.goal, L.among, λ hs o. at L hs o)
    where
      at : (L : Parted G closed b a gs (len G w)) (hs : List ℕ) → Others gs L.goal hs → Upto (lastly G closed a b hs L.goal) (len G w)
      at L hs o =
          let m = meets_all G hs a L.to (λ x q. L.met x (o.fewer x q).0 (o.fewer x q).1) in
          let u = (is_least G closed hs a (entry_of G L.goal)).lower L.to (walk_fit G closed hs (entry_of G L.goal) a L.to L.walk_to m) in
          let v = (is_least G closed [] (exit_of G L.goal) b).lower L.from (walk_fit G closed [] b (exit_of G L.goal) L.from L.walk_from (meets_none G (exit_of G L.goal) L.from)) in
          let y : Upto (own_of G closed L.goal) L.own = rw L.own_is (omega arith) in
          subst (λ (k : ℕ). Upto (lastly G closed a b hs L.goal) k) L.total
          (plus_upto (plus (least G closed hs a (entry_of G L.goal)) (own_of G closed L.goal)) (least G closed [] (exit_of G L.goal) b)
          (len G L.to + L.own) (len G L.from)
          (plus_upto (least G closed hs a (entry_of G L.goal)) (own_of G closed L.goal) (len G L.to) L.own u y) v)

  pub last_goal_of : (r : Least) → ((g : ℕ) → member g gs ≡ true → Item G g) → (gs ≡ [] → ⊥) → Lasts G closed gs a b r → least G closed gs a b ≡ r
  last_goal_of r i n L =
      least_unique G closed gs a b (least G closed gs a b) r (is_least G closed gs a b) (record { attained = hit r refl; lower = low })
    where
      hit : (s : Least) → r ≡ s → Attained G (fit G closed gs a b) s
      hit none q = tt
      hit (some k) q = let o = L.one k q in lastly_attained o.0 k o.1 (i o.0 o.2) o.3 o.4

      low : (w : List ℕ) → fit G closed gs a b w ≡ true → Upto r (len G w)
      low w e =
          let z = lastly_lower w n e in
          let h = L.all z.0 z.1 in
          under_upto r (lastly G closed a b h.0 z.0) (len G w) h.2 (z.2 h.0 h.1)

pub under_lesser : (x y z : Least) → (Under x z) ⊎ (Under y z) → Under (lesser x y) z
unfolding lesser
under_lesser x y none h = tt
under_lesser none y (some k) (inl h) = absurd h
under_lesser none y (some k) (inr h) = h
under_lesser (some i) none (some k) (inl h) = h
under_lesser (some i) none (some k) (inr h) = absurd h
under_lesser (some i) (some j) (some k) (inl h) = omega arith
under_lesser (some i) (some j) (some k) (inr h) = omega arith

pub under_self : (x : Least) → Under x x
under_self none = tt
under_self (some k) = omega arith

pub lesser_one : (x y : Least) (k : ℕ) → lesser x y ≡ some k → (x ≡ some k) ⊎ (y ≡ some k)
unfolding lesser
lesser_one none y k e = inr e
lesser_one (some i) none k e = inl e
lesser_one (some i) (some j) k e = go (leb i j) refl
  where
    go : (t : Bool) → leb i j ≡ t → (some i ≡ some k) ⊎ (some j ≡ some k)
    go true q = inl (ap some (omega (arith, leb-true i j q, some_inj e)))
    go false q = inr (ap some (omega (arith, leb-false i j q, some_inj e)))

-- The last goal: the least length is the least, over the goals, of a walk that meets the others, comes to the goal, and goes on to the end.
pub last_goal : (G : Graph) (closed : ℕ → Bool) (gs : List ℕ) (a b : ℕ) → ((g : ℕ) → member g gs ≡ true → Item G g) → (gs ≡ [] → ⊥)
    → least G closed gs a b ≡ any_last G closed a b gs gs
unfolding any_last
last_goal G closed gs a b i n =
    last_goal_of G closed gs a b (any_last G closed a b gs gs) i n (record { one = one gs (λ g h. h); all = λ g h. (without g gs, others_without gs g, all gs g h) })
  where
    one : (fs : List ℕ) → ((g : ℕ) → member g fs ≡ true → member g gs ≡ true) → (k : ℕ) → any_last G closed a b gs fs ≡ some k
        → (g : ℕ) × (hs : List ℕ) × (member g gs ≡ true) × Others gs g hs × (lastly G closed a b hs g ≡ some k)
    one [] s k e = impossible e
    one (f ∷ fs) s k e =
        ⊎_elim (λ q. (f, without f gs, s f (member_head f fs), others_without gs f, q)) (one fs (λ g h. s g (member_tail g f fs h)) k)
        (lesser_one (lastly G closed a b (without f gs) f) (any_last G closed a b gs fs) k e)

    all : (fs : List ℕ) (g : ℕ) → member g fs ≡ true → Under (any_last G closed a b gs fs) (lastly G closed a b (without g gs) g)
    all [] g h = absurd (member_none g h)
    all (f ∷ fs) g h =
        under_lesser (lastly G closed a b (without f gs) f) (any_last G closed a b gs fs) (lastly G closed a b (without g gs) g)
        (⊎_elim (λ q. inl (rw q (under_self (lastly G closed a b (without f gs) f)))) (λ q. inr (all fs g q)) (member_cases g f fs h))
