-- A walk that meets the mandatory arcs meets source, target and the ends of these arcs; so meeting all required items is meeting all mandatory ones.
-- Assumes nothing.
use Prim.Native.Nat.{ℕ, ◌<◌}
use mathlib.Core.Path.{◌≡◌, sym, ◌∙◌}
use mathlib.Core.Logic.{◌⊎◌, inl, inr, ◌↔◌}
use mathlib.Core.Bool.{true, false, true≢false}
use mathlib.Core.List.{List, [], ◌∷◌}
use native.Mathlib.Omega.{arith}
use lib.ListN.{length}
use Rattle.lists.proofs.MemberLaws.{keep_member, member_keep}
use Rattle.lists.proofs.TestLaws.{true_of, true_or_false}
use Rattle.lists.specs.Lists.{member}
use Rattle.sheet.proofs.MarkLaws.{is_item, item_is, forced_is, is_forced_lem, arc_free, required_is, is_required_lem}
use Rattle.sheet.proofs.SheetLaws.{good_tail, good_head}
use Rattle.sheet.specs.Good.{Good}
use Rattle.sheet.specs.Sheet.{Sheet, is_mandatory, is_forbidden, all_items, Forced, is_source, is_target, ends_arc, is_forced, required}
use Rattle.walks.proofs.Join.{meets_all, meets_at, end_met, first_item, last_item}
use Rattle.walks.proofs.LeastLaw.{fit_walk, walk_fit}
use Rattle.walks.specs.Graph.{item_count, arc_item, items, meets, fit}
use Rattle.walks.specs.Walk.{Walk}
use Rattle.pass_rules.proofs.VerdictLaws.{NoWalkOn, no_walk, some_walk, one_fits, Stands}
use Rattle.pass_rules.specs.Route.{mandatory}
use Rattle.pass_rules.specs.Verdict.{fits_sheet}

pub is_mandatory_item : (S : Sheet) (i : ℕ) → i < item_count S.graph → is_mandatory S i ≡ true → member i (mandatory S) ≡ true
unfolding mandatory
is_mandatory_item S i h m = member_keep (is_mandatory S) i (all_items S.graph) (is_item S.graph i h) m

pub mandatory_item_is : (S : Sheet) (i : ℕ) → member i (mandatory S) ≡ true → (i < item_count S.graph) × (is_mandatory S i ≡ true)
unfolding mandatory
mandatory_item_is S i m = let k = keep_member (is_mandatory S) i (all_items S.graph) m in (item_is S.graph i k.0, k.1)

-- a forced item of a good sheet is a node
pub forced_node : (S : Sheet) → Good S → (p : ℕ) → Forced S p → p < S.graph.nodes
forced_node S g p (is_source q) = rw q g.source
forced_node S g p (is_target q) = rw q g.target
forced_node S g p (ends_arc l h m (inl q)) = rw (← q) (good_tail S g l h)
forced_node S g p (ends_arc l h m (inr q)) = rw (← q) (good_head S g l h)

module _ (S : Sheet) (w : List ℕ) (W : Walk S.graph (is_forbidden S) S.source S.target w) where
  -- where the mandatory arcs are met, so is every forced node
  pub forced_met : ((l : ℕ) → l < length S.graph.arcs → is_mandatory S (arc_item S.graph l) ≡ true → member (arc_item S.graph l) (items S.graph S.source w) ≡ true)
      → (p : ℕ) → Forced S p → member p (items S.graph S.source w) ≡ true
  forced_met arcs p (is_source q) = rw q (first_item S.graph S.source w)
  forced_met arcs p (is_target q) = rw q (last_item S.graph (is_forbidden S) S.source S.target w W)
  forced_met arcs p (ends_arc l h m q) = end_met S.graph (is_forbidden S) S.target l p S.source w W (arcs l h m) q

  -- A walk from source to target, clear of the forbidden items, meets all required items exactly when it meets all mandatory ones.
  pub all_met : (meets S.graph (required S) S.source w ≡ true) ↔ (meets S.graph (mandatory S) S.source w ≡ true)
  unfolding arc_item
  all_met = (
    λ e. meets_all S.graph (mandatory S) S.source w (λ i m. let k = mandatory_item_is S i m in each e i k.0 k.1 (true_or_false (is_forced S i))),
    λ e. meets_all S.graph (required S) S.source w
        (λ i m. let r = required_is S i m in meets_at S.graph (mandatory S) S.source w i e (is_mandatory_item S i r.item r.mandatory)),
  )
    where
      free : meets S.graph (required S) S.source w ≡ true → (i : ℕ) → i < item_count S.graph → is_mandatory S i ≡ true → is_forced S i ≡ false
          → member i (items S.graph S.source w) ≡ true
      free e i h m n =
          meets_at S.graph (required S) S.source w i e
          (is_required_lem S i (record { item = h; mandatory = m; free = λ l f. let y = is_forced_lem S i l f in true≢false (rw y at n) }))

      each : meets S.graph (required S) S.source w ≡ true → (i : ℕ) → i < item_count S.graph → is_mandatory S i ≡ true
          → (is_forced S i ≡ true) ⊎ (is_forced S i ≡ false) → member i (items S.graph S.source w) ≡ true
      each e i h m (inl f) = forced_met (λ l k q. free e (arc_item S.graph l) (omega arith) q (arc_free S (arc_item S.graph l) (omega arith))) i (forced_is S i f).1
      each e i h m (inr n) = free e i h m n

-- so a walk is missing for the one exactly when it is for the other
pub all_missing : (S : Sheet) → NoWalkOn S (mandatory S) ↔ NoWalkOn S (required S)
all_missing S = (λ n w e. n w (more w e), λ n w e. n w (fewer w e))
  where
    more : (w : List ℕ) → fit S.graph (is_forbidden S) (required S) S.source S.target w ≡ true
        → fit S.graph (is_forbidden S) (mandatory S) S.source S.target w ≡ true
    more w e =
        let f = fit_walk S.graph (is_forbidden S) (required S) S.target S.source w e in
        walk_fit S.graph (is_forbidden S) (mandatory S) S.target S.source w f.0 ((all_met S w f.0).0 f.1)

    fewer : (w : List ℕ) → fit S.graph (is_forbidden S) (mandatory S) S.source S.target w ≡ true
        → fit S.graph (is_forbidden S) (required S) S.source S.target w ≡ true
    fewer w e =
        let f = fit_walk S.graph (is_forbidden S) (mandatory S) S.target S.source w e in
        walk_fit S.graph (is_forbidden S) (required S) S.target S.source w f.0 ((all_met S w f.0).1 f.1)

pub all_fits : (S : Sheet) → fits_sheet S (required S) ≡ true → fits_sheet S (mandatory S) ≡ true
all_fits S e =
    true_of (fits_sheet S (mandatory S)) (λ q. true≢false (sym e ∙ (no_walk S (required S)).1 ((all_missing S).0 ((no_walk S (mandatory S)).0 q))))

-- where the verdict is 0, some walk meets each forced node
pub forced_fits : (S : Sheet) → Stands S → (p : ℕ) → Forced S p → fits_sheet S (p ∷ []) ≡ true
unfolding arc_item
forced_fits S z p f =
    let v = (some_walk S (required S)).0 z.together in
    let k = fit_walk S.graph (is_forbidden S) (required S) S.target S.source v.way v.fitting in
    let m = (all_met S v.way k.0).0 k.1 in
    one_fits S (required S) v p
    (forced_met S v.way k.0 (λ l h q. meets_at S.graph (mandatory S) S.source v.way (arc_item S.graph l) m (is_mandatory_item S (arc_item S.graph l) (omega arith) q)) p f)
