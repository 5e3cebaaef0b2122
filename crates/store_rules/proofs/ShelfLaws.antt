-- When a slip applies to a sheet and when it covers another, entry by entry; when two bases are one, which is when the sheets say the same; and what the
-- earliest slip is. Assumes nothing.
use Prim.Native.Nat.{ℕ, ◌≤◌, ◌<◌}
use mathlib.Core.Path.{◌≡◌, refl, sym, ap, ◌∙◌, subst}
use mathlib.Core.Logic.{◌⊎◌, inl, inr, ⊎_elim, ◌↔◌}
use mathlib.Core.Bool.{Bool, true, false, ◌&&◌, ◌||◌, true≢false}
use mathlib.Core.List.{List, [], ◌∷◌, ◌++◌}
use native.Mathlib.Omega.{arith}
use lib.ListN.{length, get_or}
use lib.Dec.{eqb, leb}
use borrow.Author.Tests.{eqb-true, eq-eqb, leb-true, le-leb}
use Rattle.lists.proofs.MemberLaws.{every_at, every_all}
use Rattle.lists.proofs.TestLaws.{and_true, true_and, or_true, or_of}
use Rattle.lists.specs.Lists.{pick, member, every, any}
use Rattle.sheet.proofs.MarkLaws.{required_mandatory, mandatory_mark, forbidden_mark, marked_item}
use Rattle.sheet.proofs.PageLaws.{count_on, tail_on, head_on, weight_on}
use Rattle.sheet.specs.Good.{All}
use Rattle.sheet.specs.Page.{service_of, Page, sheet_on}
use Rattle.sheet.specs.Sheet.{Sheet, mark_of, is_mandatory, is_forbidden, required}
use Rattle.reason_rules.proofs.Demand3.{graph_on, demanded_mandatory}
use Rattle.reason_rules.specs.Later.{SameMap, Demanded}
use Rattle.walks.proofs.FlatLaws.{arcs_flat}
use Rattle.walks.specs.Flat.{arcs_of, flat}
use Rattle.walks.specs.declared.arc.Arc.{Arc}
use Rattle.walks.specs.Graph.{Graph, tail_of, head_of, weight_of, item_count}
use Rattle.lists.proofs.EntryLaws.{every_same, subset_exact, alike_exact}
use Rattle.store_rules.specs.Shelf.{Nogood, Base, Shelf, base_of, same_base, is_empty, fits_base, subsumes, applies, missing, found, earliest}

-- the slip k applies to the sheet S
pub record Applies (k : Nogood) (S : Sheet) : Type 0 where
  pub closed : (r : ℕ) → member r k.reasons ≡ true → is_forbidden S r ≡ true
  pub demanded : (g : ℕ) → member g k.goals ≡ true → Demanded S g
  pub limit : S.limit ≤ k.limit

module _ (k : Nogood) (S : Sheet) where
  applies_is : applies k S ≡ true → Applies k S
  unfolding applies
  applies_is e =
      let a = and_true _ _ e in
      let b = and_true _ _ a.1 in
      record {
        closed = λ r m. every_at (is_forbidden S) k.reasons r a.0 m;
        demanded = λ g m. or_true (is_mandatory S g) (member g (required S)) (every_at (λ g. is_mandatory S g || member g (required S)) k.goals g b.0 m);
        limit = leb-true S.limit k.limit b.1;
      }

  is_applied : Applies k S → applies k S ≡ true
  unfolding applies
  is_applied a =
      true_and (every_all (is_forbidden S) k.reasons a.closed)
      (true_and (every_all (λ g. is_mandatory S g || member g (required S)) k.goals (λ g m. or_of (is_mandatory S g) (member g (required S)) (a.demanded g m)))
      (le-leb S.limit k.limit a.limit))

  pub applies_exact : (applies k S ≡ true) ↔ Applies k S
  applies_exact = (applies_is, is_applied)

  -- a slip that applies names items alone
  pub applies_items : length S.marks ≡ item_count S.graph → applies k S ≡ true
      → ((g : ℕ) → member g k.goals ≡ true → g < item_count S.graph) × ((r : ℕ) → member r k.reasons ≡ true → r < item_count S.graph)
  applies_items size e =
      let a = applies_is e in (
        λ g m. marked_item S g 0 size ((mandatory_mark S g).0 ((demanded_mandatory S g).0 (a.demanded g m))),
        λ r m. marked_item S r 1 size ((forbidden_mark S r).0 (a.closed r m)),
      )

  -- a goal is mandatory or required where its mark is 1: every required item is mandatory
  goal_marked : (g : ℕ) → (is_mandatory S g || member g (required S)) ≡ eqb (get_or S.marks g 0) 1
  unfolding is_mandatory mark_of
  goal_marked g = go (eqb (get_or S.marks g 0) 1) refl (member g (required S)) refl
    where
      go : (t : Bool) → eqb (get_or S.marks g 0) 1 ≡ t → (u : Bool) → member g (required S) ≡ u → (t || u) ≡ t
      go true p u q = refl
      go false p true q = absurd (true≢false (sym (required_mandatory S g q) ∙ p))
      go false p false q = refl

  -- so the marks and the limit say whether a slip applies
  pub applies_marked : applies k S
      ≡ (every (λ x. eqb (get_or S.marks x 0) 2) k.reasons && (every (λ x. eqb (get_or S.marks x 0) 1) k.goals && leb S.limit k.limit))
  unfolding applies is_forbidden
  applies_marked =
      ap (λ (t : Bool). every (λ x. eqb (get_or S.marks x 0) 2) k.reasons && (t && leb S.limit k.limit))
      (every_same (λ g. is_mandatory S g || member g (required S)) (λ x. eqb (get_or S.marks x 0) 1) goal_marked k.goals)

-- a covers b
pub record Subsumes (a b : Nogood) : Type 0 where
  pub goals : (g : ℕ) → member g a.goals ≡ true → member g b.goals ≡ true
  pub reasons : (r : ℕ) → member r a.reasons ≡ true → member r b.reasons ≡ true
  pub limit : b.limit ≤ a.limit

module _ (a b : Nogood) where
  subsumes_is : subsumes a b ≡ true → Subsumes a b
  unfolding subsumes
  subsumes_is e =
      let p = and_true _ _ e in
      let q = and_true _ _ p.1 in
      record {
        goals = (subset_exact a.goals b.goals).0 p.0;
        reasons = (subset_exact a.reasons b.reasons).0 q.0;
        limit = leb-true b.limit a.limit q.1;
      }

  is_subsumed : Subsumes a b → subsumes a b ≡ true
  unfolding subsumes
  is_subsumed s =
      true_and ((subset_exact a.goals b.goals).1 s.goals)
      (true_and ((subset_exact a.reasons b.reasons).1 s.reasons) (le-leb b.limit a.limit s.limit))

  pub subsumes_exact : (subsumes a b ≡ true) ↔ Subsumes a b
  subsumes_exact = (subsumes_is, is_subsumed)

pub subsumes_self : (a : Nogood) → subsumes a a ≡ true
subsumes_self a = (subsumes_exact a a).1 (record { goals = λ g m. m; reasons = λ r m. m; limit = omega arith })

pub subsumes_trans : (a b c : Nogood) → subsumes a b ≡ true → subsumes b c ≡ true → subsumes a c ≡ true
subsumes_trans a b c p q =
    let s = (subsumes_exact a b).0 p in
    let t = (subsumes_exact b c).0 q in
    (subsumes_exact a c).1
    (record { goals = λ g m. t.goals g (s.goals g m); reasons = λ r m. t.reasons r (s.reasons r m); limit = omega arith })

-- what covers a slip applies wherever that one does
pub subsumes_applies : (a b : Nogood) (S : Sheet) → subsumes a b ≡ true → applies b S ≡ true → applies a S ≡ true
subsumes_applies a b S p e =
    let s = (subsumes_exact a b).0 p in
    let t = (applies_exact b S).0 e in
    (applies_exact a S).1
    (record { closed = λ r m. t.closed r (s.reasons r m); demanded = λ g m. t.demanded g (s.goals g m); limit = omega arith })

base_eq : (a b : Base) → b.graph ≡ a.graph → b.services ≡ a.services → b.source ≡ a.source → b.target ≡ a.target → b ≡ a
base_eq a b p q r t =
    ap {B = Base} (λ (G : Graph). record { graph = G; services = b.services; source = b.source; target = b.target }) p
    ∙ ap {B = Base} (λ (ss : List ℕ). record { graph = a.graph; services = ss; source = b.source; target = b.target }) q
    ∙ ap {B = Base} (λ (s : ℕ). record { graph = a.graph; services = a.services; source = s; target = b.target }) r
    ∙ ap {B = Base} (λ (t : ℕ). record { graph = a.graph; services = a.services; source = a.source; target = t }) t

-- the test of two bases finds equal ones
same_base_eq : (a b : Base) → same_base a b ≡ true → b ≡ a
unfolding same_base
same_base_eq a b e =
    let p = and_true _ _ e in
    let q = and_true _ _ p.1 in
    let u = and_true _ _ q.1 in
    let r = and_true _ _ u.1 in
    let n : b.graph.nodes ≡ a.graph.nodes = sym (eqb-true a.graph.nodes b.graph.nodes p.0) in
    let f : flat b.graph.arcs ≡ flat a.graph.arcs = sym ((alike_exact (flat a.graph.arcs) (flat b.graph.arcs)).0 q.0) in
    let x : b.graph.arcs ≡ a.graph.arcs = sym (arcs_flat b.graph.arcs) ∙ ap arcs_of f ∙ arcs_flat a.graph.arcs in
    let g : b.graph ≡ a.graph =
    ap {B = Graph} (λ (n : ℕ). record { nodes = n; arcs = b.graph.arcs }) n ∙ ap {B = Graph} (λ (xs : List Arc). record { nodes = a.graph.nodes; arcs = xs }) x in
    base_eq a b g (sym ((alike_exact a.services b.services).0 u.0)) (sym (eqb-true a.source b.source r.0)) (sym (eqb-true a.target b.target r.1))

same_base_self : (a : Base) → same_base a a ≡ true
unfolding same_base
same_base_self a =
    true_and (eq-eqb a.graph.nodes a.graph.nodes refl)
    (true_and ((alike_exact (flat a.graph.arcs) (flat a.graph.arcs)).1 refl)
    (true_and ((alike_exact a.services a.services).1 refl)
    (true_and (eq-eqb a.source a.source refl) (eq-eqb a.target a.target refl))))

-- and them alone
pub same_base_exact : (a b : Base) → (same_base a b ≡ true) ↔ (b ≡ a)
same_base_exact a b = (same_base_eq a b, λ e. subst (λ (c : Base). same_base a c ≡ true) (sym e) (same_base_self a))

-- Where the service minutes agree, equal stored arcs are equal minutes: a weight less the service minutes of its head.
pub stored_same : (P Q : Page) → Q.services ≡ P.services → (sheet_on Q).graph ≡ (sheet_on P).graph → SameMap P.says.graph Q.says.graph
unfolding sheet_on
stored_same P Q s g =
    record { nodes = ap (λ (G : Graph). G.nodes) g; count = count; tails = tails; heads = heads; weights = weights }
  where
    count : length Q.says.graph.arcs ≡ length P.says.graph.arcs
    count = sym (count_on Q) ∙ ap (λ (G : Graph). length G.arcs) g ∙ count_on P

    tails : (l : ℕ) → l < length P.says.graph.arcs → tail_of Q.says.graph l ≡ tail_of P.says.graph l
    tails l h = sym (tail_on Q l) ∙ ap (λ (G : Graph). tail_of G l) g ∙ tail_on P l

    heads : (l : ℕ) → l < length P.says.graph.arcs → head_of Q.says.graph l ≡ head_of P.says.graph l
    heads l h = sym (head_on Q l) ∙ ap (λ (G : Graph). head_of G l) g ∙ head_on P l

    weights : (l : ℕ) → l < length P.says.graph.arcs → weight_of Q.says.graph l ≡ weight_of P.says.graph l
    weights l h =
        let v : service_of Q.services (head_of Q.says.graph l) ≡ service_of P.services (head_of P.says.graph l) =
        ap (λ (ss : List ℕ). service_of ss (head_of Q.says.graph l)) s ∙ ap (service_of P.services) (heads l h) in
        let w : weight_of (sheet_on Q).graph l ≡ weight_of (sheet_on P).graph l = ap (λ (G : Graph). weight_of G l) g in
        omega (arith, weight_on P l h, weight_on Q l (rw count h), v, w)

-- one map with its service minutes, one source and target
abbrev pub SameBase : Page → Page → Type 0
SameBase P Q =
    SameMap P.says.graph Q.says.graph × (Q.services ≡ P.services) × (Q.says.source ≡ P.says.source) × (Q.says.target ≡ P.says.target)

-- The bases of two sheets are one exactly where the sheets say the same map, service minutes, source and target.
pub same_base_lem : (P Q : Page) → (same_base (base_of P) (base_of Q) ≡ true) ↔ SameBase P Q
unfolding base_of sheet_on
same_base_lem P Q = (is, same)
  where
    is : same_base (base_of P) (base_of Q) ≡ true → SameBase P Q
    is e =
        let b = (same_base_exact (base_of P) (base_of Q)).0 e in
        let s : Q.services ≡ P.services = ap (λ (B : Base). B.services) b in
        (stored_same P Q s (ap (λ (B : Base). B.graph) b), s, ap (λ (B : Base). B.source) b, ap (λ (B : Base). B.target) b)

    same : SameBase P Q → same_base (base_of P) (base_of Q) ≡ true
    same s = (same_base_exact (base_of P) (base_of Q)).1 (base_eq (base_of P) (base_of Q) (graph_on P Q s.0 s.1) s.1 s.2 s.3)

-- k is the first of the slips that pass the test
pub record Earliest (f : Nogood → Bool) (ks : List Nogood) (k : Nogood) : Type 0 where
  pub before : List Nogood
  pub after : List Nogood
  pub parts : ks ≡ before ++ (k ∷ after)
  pub passes : f k ≡ true
  pub fail : All (λ j. f j ≡ false) before

module _ (f : Nogood → Bool) where
  is_earliest : (before : List Nogood) (k : Nogood) (after : List Nogood) → f k ≡ true → All (λ j. f j ≡ false) before → earliest f (before ++ (k ∷ after)) ≡ found k
  unfolding earliest
  is_earliest [] k after p a = rw p
  is_earliest (j ∷ before) k after p a = rw a.0 (is_earliest before k after p a.1)

  earliest_is : (ks : List Nogood) (k : Nogood) → earliest f ks ≡ found k → Earliest f ks k
  unfolding earliest
  earliest_is [] k e = absurd (let z : ◌≡◌ {A = ℕ} 0 1 = cc in omega arith)
  earliest_is (j ∷ ks) k e = go (f j) refl e (earliest_is ks k)
    where
      go : (t : Bool) → f j ≡ t → pick t (found j) (earliest f ks) ≡ found k → (earliest f ks ≡ found k → Earliest f ks k) → Earliest f (j ∷ ks) k
      go true q e ih = let z : j ≡ k = cc in record { before = []; after = ks; parts = ap (λ (i : Nogood). i ∷ ks) z; passes = ap f (sym z) ∙ q; fail = tt }
      go false q e ih = let w = ih e in record { before = j ∷ w.before; after = w.after; parts = ap (λ (is : List Nogood). j ∷ is) w.parts; passes = w.passes; fail = (q, w.fail) }

  pub earliest_exact : (ks : List Nogood) (k : Nogood) → (earliest f ks ≡ found k) ↔ Earliest f ks k
  earliest_exact ks k = (earliest_is ks k, λ w. ap (earliest f) w.parts ∙ is_earliest w.before k w.after w.passes w.fail)

  pub earliest_missing : (ks : List Nogood) → (earliest f ks ≡ missing) ↔ (any f ks ≡ false)
  unfolding earliest
  earliest_missing [] = (λ e. refl, λ e. refl)
  earliest_missing (j ∷ ks) = go (f j) (earliest_missing ks)
    where
      go : (t : Bool) → (earliest f ks ≡ missing) ↔ (any f ks ≡ false) → (pick t (found j) (earliest f ks) ≡ missing) ↔ ((t || any f ks) ≡ false)
      go true ih = (λ e. absurd (let z : ◌≡◌ {A = ℕ} 0 1 = cc in omega arith), λ e. absurd (true≢false e))
      go false ih = ih

-- a shelf is for a base where it has no slips, or this base
pub fits_exact : (K : Shelf) (base : Base) → (fits_base K base ≡ true) ↔ ((K.slips ≡ []) ⊎ (same_base K.base base ≡ true))
unfolding fits_base is_empty
fits_exact K base = go K.slips
  where
    go : (ks : List Nogood) → ((is_empty ks || same_base K.base base) ≡ true) ↔ ((ks ≡ []) ⊎ (same_base K.base base ≡ true))
    go [] = (λ e. inl refl, λ e. refl)
    go (k ∷ ks) = (inr, ⊎_elim (λ q. absurd (let z : ◌≡◌ {A = ℕ} 0 1 = cc in omega arith)) (λ q. q))

-- where there are slips the bases are one
pub fits_same : (K : Shelf) (base : Base) → fits_base K base ≡ true → (K.slips ≡ [] → ⊥) → same_base K.base base ≡ true
fits_same K base f n = ⊎_elim (λ q. absurd (n q)) (λ q. q) ((fits_exact K base).0 f)
