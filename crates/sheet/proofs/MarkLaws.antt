-- Which nodes are forced, and which items required: mandatory, and not forced. Assumes nothing.
use Prim.Native.Nat.{ℕ, suc, ◌≤◌, ◌<◌}
use mathlib.Core.Path.{◌≡◌, sym, ap, ◌∙◌}
use mathlib.Core.Logic.{◌⊎◌, inl, inr, ⊎_elim, ◌↔◌}
use mathlib.Core.Bool.{Bool, true, false, not, ◌&&◌, ◌||◌, false≢true, true≢false}
use mathlib.Core.List.{List, [], ◌∷◌}
use native.Mathlib.Omega.{arith}
use lib.ListN.{length, get_or-eq_default}
use lib.Dec.{eqb, ltb}
use borrow.Author.Tests.{eqb-true, eq-eqb, ltb-true, ltb-false, lt-ltb, le-ltb}
use Rattle.lists.proofs.AscendLaws.{keep_ascends, keep_none, span_member, member_span}
use Rattle.lists.proofs.MemberLaws.{member_head, member_tail, member_cases, member_none, keep_member, member_keep}
use Rattle.lists.proofs.Pigeonhole.{Below, below_all}
use Rattle.lists.proofs.TestLaws.{and_true, true_and, or_true, or_of, true_or, not_true, true_of, false_of}
use Rattle.lists.specs.Lists.{member, ascends}
use Rattle.walks.specs.Graph.{Graph, tail_of, head_of, arc_item, item_count}
use Rattle.sheet.specs.Sheet.{is_forbidden, Sheet, mark_of, is_open, is_mandatory, all_items, all_arcs, ends_mandatory, Forced, is_source, is_target, ends_arc, is_forced, is_required, required}

pub is_item : (G : Graph) (i : ℕ) → i < item_count G → member i (all_items G) ≡ true
unfolding all_items
is_item G i h = member_span (item_count G) 0 i (omega arith) (omega arith)

pub item_is : (G : Graph) (i : ℕ) → member i (all_items G) ≡ true → i < item_count G
unfolding all_items
item_is G i m = omega (arith, (span_member (item_count G) 0 i m).1)

-- the mandatory arc that a node ends
pub ends_mandatory_lem : (S : Sheet) (p : ℕ) (ls : List ℕ) → ends_mandatory S p ls ≡ true
    → (l : ℕ) × (member l ls ≡ true) × (is_mandatory S (arc_item S.graph l) ≡ true) × ((tail_of S.graph l ≡ p) ⊎ (head_of S.graph l ≡ p))
unfolding ends_mandatory
ends_mandatory_lem S p [] e = absurd (false≢true e)
ends_mandatory_lem S p (l ∷ ls) e =
    let t = tail_of S.graph l in
    let h = head_of S.graph l in
    let i = arc_item S.graph l in
    ⊎_elim
    (λ q.
    let s = and_true (is_mandatory S i) (eqb t p || eqb h p) q in
    (l, member_head l ls, s.0, ⊎_elim (λ r. inl (eqb-true t p r)) (λ r. inr (eqb-true h p r)) (or_true (eqb t p) (eqb h p) s.1)))
    (λ q. let f = ends_mandatory_lem S p ls q in (f.0, member_tail f.0 l ls f.1, f.2, f.3))
    (or_true (is_mandatory S i && (eqb t p || eqb h p)) (ends_mandatory S p ls) e)

-- and the other way: a mandatory arc of the list makes its ends such nodes
pub is_end : (S : Sheet) (p l : ℕ) (ls : List ℕ) → member l ls ≡ true → is_mandatory S (arc_item S.graph l) ≡ true
    → (tail_of S.graph l ≡ p) ⊎ (head_of S.graph l ≡ p) → ends_mandatory S p ls ≡ true
unfolding ends_mandatory
is_end S p l [] h m e = absurd (member_none l h)
is_end S p l (k ∷ ls) h m e =
    or_of (ends k) (ends_mandatory S p ls) (⊎_elim (λ q. inl (ap ends (sym q) ∙ true_and m end)) (λ q. inr (is_end S p l ls q m e)) (member_cases l k ls h))
  where
    ends : ℕ → Bool
    ends k = is_mandatory S (arc_item S.graph k) && (eqb (tail_of S.graph k) p || eqb (head_of S.graph k) p)

    end : (eqb (tail_of S.graph l) p || eqb (head_of S.graph l) p) ≡ true
    end = or_of _ _ (⊎_elim (λ q. inl (eq-eqb (tail_of S.graph l) p q)) (λ q. inr (eq-eqb (head_of S.graph l) p q)) e)

module _ (S : Sheet) where
  pub is_forced_lem : (p : ℕ) → p < S.graph.nodes → Forced S p → is_forced S p ≡ true
  unfolding is_forced all_arcs
  is_forced_lem p n f = true_and (lt-ltb p S.graph.nodes n) (go f)
    where
      go : Forced S p → (eqb p S.source || (eqb p S.target || ends_mandatory S p (all_arcs S.graph))) ≡ true
      go (is_source q) = rw (eq-eqb p S.source q)
      go (is_target q) = true_or (eqb p S.source) (eqb p S.target || ends_mandatory S p (all_arcs S.graph)) (rw (eq-eqb p S.target q))
      go (ends_arc l h m e) =
          true_or (eqb p S.source) (eqb p S.target || ends_mandatory S p (all_arcs S.graph))
          (true_or (eqb p S.target) (ends_mandatory S p (all_arcs S.graph))
          (is_end S p l (all_arcs S.graph) (member_span (length S.graph.arcs) 0 l (omega arith) (omega arith)) m e))

  pub forced_is : (p : ℕ) → is_forced S p ≡ true → (p < S.graph.nodes) × Forced S p
  unfolding is_forced all_arcs
  forced_is p e = (ltb-true p S.graph.nodes t.0, first (or_true (eqb p S.source) (eqb p S.target || ends_mandatory S p (all_arcs S.graph)) t.1))
    where
      t : (ltb p S.graph.nodes ≡ true) × ((eqb p S.source || (eqb p S.target || ends_mandatory S p (all_arcs S.graph))) ≡ true)
      t = and_true (ltb p S.graph.nodes) (eqb p S.source || (eqb p S.target || ends_mandatory S p (all_arcs S.graph))) e

      second : (eqb p S.target ≡ true) ⊎ (ends_mandatory S p (all_arcs S.graph) ≡ true) → Forced S p
      second (inl q) = is_target (eqb-true p S.target q)
      second (inr q) =
          let f = ends_mandatory_lem S p (all_arcs S.graph) q in
          ends_arc f.0 (omega (arith, (span_member (length S.graph.arcs) 0 f.0 f.1).1)) f.2 f.3

      first : (eqb p S.source ≡ true) ⊎ ((eqb p S.target || ends_mandatory S p (all_arcs S.graph)) ≡ true) → Forced S p
      first (inl q) = is_source (eqb-true p S.source q)
      first (inr q) = second (or_true (eqb p S.target) (ends_mandatory S p (all_arcs S.graph)) q)

  -- no arc is forced
  pub arc_free : (i : ℕ) → S.graph.nodes ≤ i → is_forced S i ≡ false
  unfolding is_forced
  arc_free i h = rw (le-ltb i S.graph.nodes h)

-- a required item: mandatory and, if it is a node, neither source nor target nor an end of a mandatory arc
pub record Required (S : Sheet) (i : ℕ) : Type 0 where
  pub item : i < item_count S.graph
  pub mandatory : is_mandatory S i ≡ true
  pub free : i < S.graph.nodes → Forced S i → ⊥

pub is_required_lem : (S : Sheet) (i : ℕ) → Required S i → member i (required S) ≡ true
unfolding required is_required
is_required_lem S i r =
    member_keep (is_required S) i (all_items S.graph) (is_item S.graph i r.item)
    (true_and r.mandatory (ap not (false_of (is_forced S i) (λ e. let f = forced_is S i e in r.free f.0 f.1))))

pub required_is : (S : Sheet) (i : ℕ) → member i (required S) ≡ true → Required S i
unfolding required is_required
required_is S i m =
    let k = keep_member (is_required S) i (all_items S.graph) m in
    let s = and_true (is_mandatory S i) (not (is_forced S i)) k.1 in
    record {
      item = item_is S.graph i k.0;
      mandatory = s.0;
      free = λ n f. true≢false (sym (is_forced_lem S i n f) ∙ not_true (is_forced S i) s.1);
    }

-- required items ascend
pub required_ascend : (S : Sheet) → ascends (required S) ≡ true
unfolding required all_items
required_ascend S = keep_ascends (is_required S) (item_count S.graph) 0

pub required_below : (S : Sheet) → Below (item_count S.graph) (required S)
required_below S = below_all (item_count S.graph) (required S) (λ i m. (required_is S i m).item)

pub required_mandatory : (S : Sheet) (i : ℕ) → member i (required S) ≡ true → is_mandatory S i ≡ true
required_mandatory S i m = (required_is S i m).mandatory

-- with no mark of 1 nothing is required
pub unmarked : (S : Sheet) → ((i : ℕ) → is_mandatory S i ≡ false) → required S ≡ []
unfolding required all_items is_required
unmarked S h = keep_none (is_required S) (item_count S.graph) 0 (λ j l g. rw (h j))

-- an item is open, mandatory or forbidden by its mark
pub open_mark : (S : Sheet) (i : ℕ) → (is_open S i ≡ true) ↔ (mark_of S i ≡ 0)
unfolding is_open
open_mark S i = (eqb-true (mark_of S i) 0, eq-eqb (mark_of S i) 0)

pub mandatory_mark : (S : Sheet) (i : ℕ) → (is_mandatory S i ≡ true) ↔ (mark_of S i ≡ 1)
unfolding is_mandatory
mandatory_mark S i = (eqb-true (mark_of S i) 1, eq-eqb (mark_of S i) 1)

pub forbidden_mark : (S : Sheet) (i : ℕ) → (is_forbidden S i ≡ true) ↔ (mark_of S i ≡ 2)
unfolding is_forbidden mark_of
forbidden_mark S i = (eqb-true (mark_of S i) 2, eq-eqb (mark_of S i) 2)

pub is_open_lem : (S : Sheet) (i : ℕ) → mark_of S i ≡ 0 → is_open S i ≡ true
is_open_lem S i = (open_mark S i).1

pub is_mandatory_lem : (S : Sheet) (i : ℕ) → mark_of S i ≡ 1 → is_mandatory S i ≡ true
is_mandatory_lem S i = (mandatory_mark S i).1

-- a number that has a mark other than 0 is an item's
pub marked_item : (S : Sheet) (i m : ℕ) → length S.marks ≡ item_count S.graph → mark_of S i ≡ suc m → i < item_count S.graph
unfolding mark_of
marked_item S i m size e = ltb-true i (item_count S.graph) (true_of (ltb i (item_count S.graph)) past)
  where
    past : ltb i (item_count S.graph) ≡ false → ⊥
    past q =
        let h : length S.marks ≤ i = omega (arith, ltb-false i (item_count S.graph) q, size) in
        omega (arith, get_or-eq_default S.marks 0 h, e)
