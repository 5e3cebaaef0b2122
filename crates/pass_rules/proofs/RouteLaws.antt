-- No route is lost and none is won: what a route meets is met by a walk within the limit, so its sheet stands and the pass leaves it alone; and with the
-- marks that the pass leaves, more is asked. Assumes nothing.
use Prim.Native.Nat.{ℕ, ◌<◌}
use mathlib.Core.Path.{◌≡◌, sym, ap, ◌∙◌}
use mathlib.Core.Logic.{◌⊎◌, inl, inr, ⊎_elim}
use mathlib.Core.Bool.{Bool, true, false, not, ◌&&◌, true≢false}
use mathlib.Core.List.{List, []}
use native.Mathlib.Omega.{arith}
use Rattle.lists.proofs.MemberLaws.{member_none, every_all}
use Rattle.lists.proofs.TestLaws.{true_or_false, and_true, true_and, false_of}
use Rattle.lists.specs.Lists.{member}
use Rattle.sheet.proofs.MarkLaws.{forced_is, required_is, marked_item, forbidden_mark, is_mandatory_lem, mandatory_mark}
use Rattle.sheet.specs.Sheet.{Sheet, mark_of, is_open, is_mandatory, is_forbidden, required}
use Rattle.walks.proofs.FitsLaws.{fit_narrower}
use Rattle.walks.proofs.Join.{meets_all, meets_at, fit_clear}
use Rattle.walks.proofs.LeastLaw.{fit_walk}
use Rattle.walks.specs.Graph.{Graph, item_count, arc_item, items, chain, clear, meets, fit}
use Rattle.walks.specs.Walk.{Walk}
use Rattle.pass_rules.proofs.MetLaws.{is_mandatory_item, mandatory_item_is, forced_met}
use Rattle.pass_rules.proofs.SlipOfPass.{new_marks_size, new_marks_at}
use Rattle.pass_rules.proofs.VerdictLaws.{SomeWalkOn, met_fits, one_fits, Stands, pruned_mark, forced_mark, other_mark, forbidden_stays, mandatory_stays}
use Rattle.pass_rules.specs.Route.{Route, mandatory, marked}
use Rattle.pass_rules.specs.Verdict.{new_mark, new_marks}

module _ (S : Sheet) (w : List ℕ) (R : Route S w) where
  met : List ℕ
  met = items S.graph S.source w

  walk : Walk S.graph (is_forbidden S) S.source S.target w
  walk = (fit_walk S.graph (is_forbidden S) (mandatory S) S.target S.source w R.obeys).0

  mandatory_met : (i : ℕ) → i < item_count S.graph → is_mandatory S i ≡ true → member i met ≡ true
  unfolding mandatory met
  mandatory_met i h m =
      meets_at S.graph (mandatory S) S.source w i (fit_walk S.graph (is_forbidden S) (mandatory S) S.target S.source w R.obeys).1
      (is_mandatory_item S i h m)

  some : SomeWalkOn S (mandatory S)
  some = record { way = w; fitting = R.obeys; short = R.short }

  -- the route's sheet is not refused
  pub route_stands : Stands S
  unfolding met some
  route_stands = record {
    some = met_fits S (mandatory S) some [] (λ g q. absurd (member_none g q));
    each = λ i h m. one_fits S (mandatory S) some i (mandatory_met i h m);
    together = met_fits S (mandatory S) some (required S) (λ i m. let r = required_is S i m in mandatory_met i r.item r.mandatory);
  }

  -- no item that the route meets ends forbidden
  pub route_clear : (i : ℕ) → new_mark S i ≡ 2 → member i (items S.graph S.source w) ≡ false
  unfolding met some
  route_clear i e = false_of (member i met) (λ m. go m (true_or_false (is_open S i)))
    where
      go : member i met ≡ true → (is_open S i ≡ true) ⊎ (is_open S i ≡ false) → ⊥
      go m (inl o) = true≢false (sym (one_fits S (mandatory S) some i m) ∙ (pruned_mark S i o).0 e)
      go m (inr o) =
          true≢false (sym ((forbidden_mark S i).1 (sym (other_mark S i o) ∙ e))
          ∙ fit_clear S.graph (is_forbidden S) (mandatory S) S.source S.target w i R.obeys m)

  -- and it meets each item that ends mandatory
  pub route_meets : (i : ℕ) → i < item_count S.graph → new_mark S i ≡ 1 → member i (items S.graph S.source w) ≡ true
  unfolding met arc_item
  route_meets i h e =
      ⊎_elim (λ o. forced_met S w walk (λ l k q. mandatory_met (arc_item S.graph l) (omega arith) q) i (forced_is S i (forced_mark S i o e)).1)
      (λ o. mandatory_met i h (is_mandatory_lem S i (sym (other_mark S i o) ∙ e)))
      (true_or_false (is_open S i))

-- a walk that fits still does where it meets nothing closed and all that is asked
fit_again : (G : Graph) (c c' : ℕ → Bool) (gs gs' : List ℕ) (a b : ℕ) (w : List ℕ) → fit G c gs a b w ≡ true
    → ((i : ℕ) → member i (items G a w) ≡ true → c' i ≡ false) → ((g : ℕ) → member g gs' ≡ true → member g (items G a w) ≡ true) → fit G c' gs' a b w ≡ true
unfolding fit clear
fit_again G c c' gs gs' a b w e o m =
    let s = and_true (chain G a b w) (clear G c a w && meets G gs a w) e in
    true_and s.0 (true_and (every_all (λ i. not (c' i)) (items G a w) (λ i q. ap not (o i q))) (meets_all G gs' a w m))

-- The sheet with the marks that the pass leaves. What was forbidden or mandatory still is, and a route keeps what is added: so the routes are the same.
module _ (S : Sheet) where
  left : Sheet
  left = marked S (new_marks S)

  left_mark : (i : ℕ) → i < item_count S.graph → mark_of left i ≡ new_mark S i
  unfolding left mark_of
  left_mark i h = new_marks_at S i h

  pub route_left : (w : List ℕ) → Route S w → Route (marked S (new_marks S)) w
  unfolding left mandatory
  route_left w R = record {
    obeys = fit_again S.graph (is_forbidden S) (is_forbidden left) (mandatory S) (mandatory left) S.source S.target w R.obeys (λ i m. false_of (is_forbidden left i) (λ q. clear_of i m ((forbidden_mark left i).0 q))) meets;
    simple = R.simple;
    short = R.short;
  }
    where
      clear_of : (i : ℕ) → member i (items S.graph S.source w) ≡ true → mark_of left i ≡ 2 → ⊥
      clear_of i m e = true≢false (sym m ∙ route_clear S w R i (sym (left_mark i (marked_item left i 1 (new_marks_size S) e)) ∙ e))

      meets : (g : ℕ) → member g (mandatory left) ≡ true → member g (items S.graph S.source w) ≡ true
      meets g m =
          let k = mandatory_item_is left g m in
          route_meets S w R g k.0 (sym (left_mark g k.0) ∙ (mandatory_mark left g).0 k.1)

  pub left_route : (w : List ℕ) → Route (marked S (new_marks S)) w → Route S w
  unfolding left mandatory
  left_route w R = record {
    obeys = fit_narrower S.graph (is_forbidden left) (is_forbidden S) (mandatory left) (mandatory S) S.source S.target w clear_of asked R.obeys;
    simple = R.simple;
    short = R.short;
  }
    where
      clear_of : (i : ℕ) → i < item_count S.graph → is_forbidden left i ≡ false → is_forbidden S i ≡ false
      clear_of i h o = false_of (is_forbidden S i) (λ q. true≢false (sym ((forbidden_mark left i).1 (left_mark i h ∙ forbidden_stays S i ((forbidden_mark S i).0 q))) ∙ o))

      asked : (i : ℕ) → member i (mandatory S) ≡ true → member i (mandatory left) ≡ true
      asked i m =
          let k = mandatory_item_is S i m in
          is_mandatory_item left i k.0 (is_mandatory_lem left i (left_mark i k.0 ∙ mandatory_stays S i ((mandatory_mark S i).0 k.1)))
