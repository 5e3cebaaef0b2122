-- Demand 2, over bytes, for every sheet that is taken, which draws none of 3 to 13. Each statement speaks of walks, and of the slip that pass writes.
-- Assumes nothing.
use Prim.Native.Nat.{ℕ, ◌≤◌, ◌<◌}
use mathlib.Core.Path.{◌≡◌, refl, sym, ap, ◌∙◌, subst}
use mathlib.Core.Logic.{◌⊎◌, inl, inr, ◌↔◌}
use mathlib.Core.Bool.{true, false, true≢false}
use mathlib.Core.List.{List, [], ◌∷◌}
use native.Mathlib.Omega.{arith}
use lib.ListN.{length}
use Rattle.lists.proofs.MemberLaws.{member_none}
use Rattle.sheet.proofs.MarkLaws.{forced_is, is_forced_lem}
use Rattle.sheet.proofs.SlipLaws.{slip_back}
use Rattle.sheet.specs.Good.{Good}
use Rattle.sheet.specs.Sheet.{Sheet, mark_of, is_open, is_mandatory, is_forbidden, Forced, required}
use Rattle.sheet.specs.Slip.{read_slip, Slip, as17}
use Rattle.varint.proofs.VarintLaws.{got_both}
use Rattle.varint.specs.Varint.{got, number, judged, read_number, read_groups, last_group, after}
use Rattle.walks.proofs.FitsLaws.{fit_narrower}
use Rattle.walks.specs.Graph.{item_count}
use Rattle.sheet.proofs.SheetLaws.{taken_got, taken_good}
use Rattle.pass_rules.proofs.MetLaws.{forced_node, forced_fits, all_missing}
use Rattle.pass_rules.proofs.RouteLaws.{route_stands, route_left, left_route}
use Rattle.pass_rules.proofs.SlipOfPass.{PassSlipIs, marks, blames, pass_slip_is, pass_finishes, pass_verdict_in, pass_mark_in}
use Rattle.pass_rules.proofs.VerdictLaws.{NoWalkOn, no_walk, stands_all, all_stands, pruned_mark, other_mark, mark_forced, forced_mark, verdict_low, VerdictIs, verdict_is, one, two, three, stands}
use Rattle.sheet.specs.Reader.{taken}
use Rattle.sheet.specs.Answer.{finished}
use Rattle.pass_rules.specs.Pass.{pass_on, verdict_in, mark_in, marks_in, Refuses}
use Rattle.pass_rules.specs.Route.{Route, mandatory, marked}
use Rattle.pass_rules.specs.Verdict.{verdict, new_mark, slip_for, pass_slip, Verdict, new_marks}

-- the round is refused when a walk is missing for one mandatory item, or for all mandatory items together
abbrev pub Refusal : Sheet → Type 0
Refusal S =
    ((i : ℕ) × (i < item_count S.graph) × (is_mandatory S i ≡ true) × NoWalkOn S (i ∷ []))
    ⊎ NoWalkOn S (mandatory S)

-- where the verdict is not 0, a walk is missing, and the other way
refusal_is : (S : Sheet) → ((verdict S).number ≡ 0 → ⊥) → Refusal S
refusal_is S n = go (verdict S) (verdict_is S) n
  where
    go : (v : Verdict) → VerdictIs S v → (v.number ≡ 0 → ⊥) → Refusal S
    go v (one e) n = inr (λ w f. (no_walk S []).0 e w (fit_narrower S.graph (is_forbidden S) (is_forbidden S) (mandatory S) [] S.source S.target w (λ i h o. o) (λ g m. absurd (member_none g m)) f))
    go v (two i s h m e l) n = inl (i, h, m, (no_walk S (i ∷ [])).0 e)
    go v (three s m e) n = inr ((all_missing S).1 ((no_walk S (required S)).0 e))
    go v (stands s m e) n = absurd (n refl)

is_refusal : (S : Sheet) → Refusal S → (verdict S).number ≡ 0 → ⊥
is_refusal S (inl r) e = true≢false (sym ((stands_all S e).each r.0 r.1 r.2) ∙ (no_walk S (r.0 ∷ [])).1 r.3)
is_refusal S (inr n) e = true≢false (sym (stands_all S e).together ∙ (no_walk S (required S)).1 ((all_missing S).0 n))

-- no slip of verdict 0 reads as one with goals and reasons
no_marks : (ms : List ℕ) (s : Slip) → read_slip (0 ∷ ms) ≡ got s [] → ⊥
unfolding read_slip number judged read_number read_groups last_group after as17
no_marks ms s e = let z : ◌≡◌ {A = ℕ} 0 1 = cc in omega arith

pub finished_is : (xs ys : List ℕ) → finished xs ≡ finished ys → xs ≡ ys
finished_is xs ys e = cc

module _ (sheet : List ℕ) (S : Sheet) (a : taken sheet ≡ got S []) where
  good : Good S
  good = taken_good sheet S [] a

  few : length (required S) ≤ 8
  few = (taken_got sheet S [] a).0.few

  -- the slip that pass writes is that of the verdict
  slip_is : (slip : List ℕ) → pass_on sheet ≡ finished slip → pass_slip S (verdict S) ≡ slip
  slip_is slip e = finished_is (pass_slip S (verdict S)) slip (sym (pass_finishes sheet S a) ∙ e)

  pub verdict_in_lem : (slip : List ℕ) → pass_on sheet ≡ finished slip → verdict_in slip ≡ (verdict S).number
  verdict_in_lem slip e = rw (← (slip_is slip e)) (pass_verdict_in S good few)

  -- under verdict 0 each item has the mark that document 01 gives it
  pub marks_exact : (slip : List ℕ) → pass_on sheet ≡ finished slip → verdict_in slip ≡ 0 → (i : ℕ) → i < item_count S.graph → mark_in slip i ≡ new_mark S i
  marks_exact slip e z i h = rw (← (slip_is slip e)) (pass_mark_in S good few (sym (verdict_in_lem slip e) ∙ z) i h)

  marks_left : (slip : List ℕ) → pass_on sheet ≡ finished slip → verdict_in slip ≡ 0 → marks_in slip ≡ new_marks S
  marks_left slip e z = go (pass_slip S (verdict S)) (pass_slip_is S good few) (slip_is slip e)
    where
      go : (bs : List ℕ) → PassSlipIs S bs → bs ≡ slip → marks_in slip ≡ new_marks S
      go bs (marks v) q = ap marks_in (sym q)
      go bs (blames l b) q = absurd (omega (arith, l, sym (verdict_in_lem slip e) ∙ z))

  -- Unless the round is refused, an open item is pruned exactly when no walk from source to target through it, clear of everything forbidden,
  -- keeps to the limit.
  pub prune_exact : (slip : List ℕ) → pass_on sheet ≡ finished slip → verdict_in slip ≡ 0 → (i : ℕ) → i < item_count S.graph → is_open S i ≡ true
      → (mark_in slip i ≡ 2) ↔ NoWalkOn S (i ∷ [])
  prune_exact slip e z i h o =
      let m = marks_exact slip e z i h in
      (λ q. (no_walk S (i ∷ [])).0 ((pruned_mark S i o).0 (sym m ∙ q)), λ n. m ∙ (pruned_mark S i o).1 ((no_walk S (i ∷ [])).1 n))

  -- A slip of pass that has goals and reasons is that of a refused round, and the other way.
  pub refuses_is : (s : Slip) → Refuses sheet s → ((verdict S).number ≡ 0 → ⊥) × (s ≡ slip_for S (verdict S).number (verdict S).goals)
  refuses_is s r = go (pass_slip S (verdict S)) (pass_slip_is S good few) (ap read_slip (slip_is r.slip r.finishes) ∙ r.says)
    where
      go : (bs : List ℕ) → PassSlipIs S bs → read_slip bs ≡ got s [] → ((verdict S).number ≡ 0 → ⊥) × (s ≡ slip_for S (verdict S).number (verdict S).goals)
      go bs (marks e) q = absurd (no_marks (new_marks S) s q)
      go bs (blames l b) q =
          (λ z. absurd (omega (arith, l, z)), sym (got_both (slip_for S (verdict S).number (verdict S).goals) s [] [] (sym (slip_back (slip_for S (verdict S).number (verdict S).goals) b) ∙ q)).0)

  pub is_refused : ((verdict S).number ≡ 0 → ⊥) → Refuses sheet (slip_for S (verdict S).number (verdict S).goals)
  unfolding slip_for
  is_refused n = go (pass_slip S (verdict S)) (pass_slip_is S good few) (pass_finishes sheet S a)
    where
      go : (bs : List ℕ) → PassSlipIs S bs → pass_on sheet ≡ finished bs → Refuses sheet (slip_for S (verdict S).number (verdict S).goals)
      go bs (marks e) q = absurd (n e)
      go bs (blames l b) q = record { slip = bs; finishes = q; says = slip_back (slip_for S (verdict S).number (verdict S).goals) b; low = l; high = verdict_low S }

  -- A round is refused exactly when such a walk is missing for one mandatory item, or for all mandatory items together.
  pub refuse_exact : ((s : Slip) × Refuses sheet s) ↔ Refusal S
  refuse_exact = (
    λ r. refusal_is S (refuses_is r.0 r.1).0,
    λ r. (slip_for S (verdict S).number (verdict S).goals, is_refused (is_refusal S r)),
  )

  -- Under verdict 0 an open item ends mandatory exactly when it is source, target or an end of a mandatory arc.
  pub forced_exact : (slip : List ℕ) → pass_on sheet ≡ finished slip → verdict_in slip ≡ 0 → (i : ℕ) → i < item_count S.graph → is_open S i ≡ true
      → (mark_in slip i ≡ 1) ↔ Forced S i
  forced_exact slip e z i h o =
      let m = marks_exact slip e z i h in
      let t = stands_all S (sym (verdict_in_lem slip e) ∙ z) in
      (λ q. (forced_is S i (forced_mark S i o (sym m ∙ q))).1, λ f. m ∙ mark_forced S i o (forced_fits S t i f) (is_forced_lem S i (forced_node S good i f) f))

  -- and every item that is not open keeps its mark
  pub marked_kept : (slip : List ℕ) → pass_on sheet ≡ finished slip → verdict_in slip ≡ 0 → (i : ℕ) → i < item_count S.graph → is_open S i ≡ false
      → mark_in slip i ≡ mark_of S i
  marked_kept slip e z i h o = marks_exact slip e z i h ∙ other_mark S i o

  -- So no simple route that obeys the marks is lost, and none is won: a walk is a route of the sheet exactly when the round stands and the walk is a
  -- route of the sheet with the marks that the pass leaves.
  pub route_kept : (w : List ℕ)
      → Route S w ↔ ((slip : List ℕ) × (pass_on sheet ≡ finished slip) × (verdict_in slip ≡ 0) × Route (marked S (marks_in slip)) w)
  route_kept w = (forth, λ k. left_route S w (subst (λ (ms : List ℕ). Route (marked S ms) w) (marks_left k.0 k.1 k.2) k.3))
    where
      forth : Route S w → (slip : List ℕ) × (pass_on sheet ≡ finished slip) × (verdict_in slip ≡ 0) × Route (marked S (marks_in slip)) w
      forth R =
          let slip = pass_slip S (verdict S) in
          let e : pass_on sheet ≡ finished slip = pass_finishes sheet S a in
          let z : verdict_in slip ≡ 0 = verdict_in_lem slip e ∙ all_stands S (route_stands S w R) in
          (slip, e, z, subst (λ (ms : List ℕ). Route (marked S ms) w) (sym (marks_left slip e z)) (route_left S w R))
