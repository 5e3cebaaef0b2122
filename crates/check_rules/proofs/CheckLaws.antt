-- Check's yes is exactly its rule, in terms of walks; and check says yes to every slip that pass writes for a refused round and reason for a pruned item.
-- Assumes nothing.
use Prim.Native.Nat.{ℕ, ◌≤◌}
use mathlib.Core.Path.{◌≡◌, refl, sym, ap, ◌∙◌, subst}
use mathlib.Core.Logic.{◌⊎◌, inl, inr, ◌↔◌}
use mathlib.Core.Bool.{Bool, true, false, not, ◌&&◌, true≢false}
use mathlib.Core.List.{List, [], ◌∷◌, ◌++◌}
use native.Mathlib.Omega.{arith}
use lib.ListN.{length}
use lib.Dec.{eqb, ltb}
use borrow.Author.Tests.{eqb-true, eqb-false, eq-eqb, ne_eqb, lt-ltb, le-leb}
use Rattle.lists.proofs.MemberLaws.{every_at, every_all, member_none, member_one}
use Rattle.lists.proofs.Pigeonhole.{Below, below_append}
use Rattle.lists.proofs.TestLaws.{and_true, true_and, not_true, true_or_false}
use Rattle.lists.specs.Lists.{pick, member, every, ascends}
use Rattle.sheet.proofs.SheetLaws.{taken_got}
use Rattle.pass_rules.proofs.Demand2.{refuses_is}
use Rattle.pass_rules.proofs.SlipOfPass.{Goals, verdict_goals, reasons_below, reasons_rise}
use Rattle.pass_rules.proofs.VerdictLaws.{VerdictIs, verdict_is, one, two, three, stands, refused_goals}
use Rattle.sheet.specs.Reader.{taken}
use Rattle.pass_rules.specs.Pass.{Refuses}
use Rattle.pass_rules.specs.Verdict.{verdict, Verdict, fits_sheet, is_pruned, reasons_for, slip_for}
use Rattle.reason_rules.proofs.AnswerLaws.{explained}
use Rattle.reason_rules.proofs.Demand3.{listed_forbidden, list_valid}
use Rattle.reason_rules.specs.Later.{Explains}
use Rattle.sheet.proofs.SlipLaws.{slip_read}
use Rattle.sheet.specs.Sheet.{Sheet, is_open, is_mandatory, is_forbidden, required}
use Rattle.sheet.specs.Slip.{Slip, read_slip}
use Rattle.varint.specs.Varint.{got, refuse, after}
use Rattle.walks.proofs.FitsLaws.{fits_none, none_fits}
use Rattle.walks.specs.Graph.{item_count, fits}
use Rattle.walks.specs.Walk.{NoWalk}
use Rattle.check_rules.specs.Check.{goal_count, well_formed, is_goal, holds, judged_on, check_on}

-- a goal is mandatory for 2, required for 3, open for 4
pub record GoalOf (S : Sheet) (v g : ℕ) : Type 0 where
  pub two : v ≡ 2 → is_mandatory S g ≡ true
  pub three : v ≡ 3 → member g (required S) ≡ true
  pub four : v ≡ 4 → is_open S g ≡ true

-- Check's rule: every reason is shut on the sheet, the goals are as the first number says, and no walk clear of the list, all else open, meets the
-- goals within the sheet's limit.
pub record Rule (S : Sheet) (s : Slip) : Type 0 where
  pub closed : (r : ℕ) → member r s.reasons ≡ true → is_forbidden S r ≡ true
  pub goals : (g : ℕ) → member g s.goals ≡ true → GoalOf S s.first g
  pub reason : NoWalk S.graph S.source S.target S.limit (λ j. member j s.reasons) s.goals

goal_of : (S : Sheet) (v g : ℕ) → is_goal S v g ≡ true → GoalOf S v g
unfolding is_goal
goal_of S v g e = record {
  two = λ q. let z : eqb v 2 ≡ true = eq-eqb v 2 q in rw z at e;
  three = λ q. let y : eqb v 2 ≡ false = ne_eqb v 2 (λ p. absurd (omega arith)) in let z : eqb v 3 ≡ true = eq-eqb v 3 q in rw (y, z) at e;
  four = λ q. let y : eqb v 2 ≡ false = ne_eqb v 2 (λ p. absurd (omega arith)) in let z : eqb v 3 ≡ false = ne_eqb v 3 (λ p. absurd (omega arith)) in rw (y, z) at e;
}

is_goal_lem : (S : Sheet) (v g : ℕ) → 2 ≤ v → v ≤ 4 → GoalOf S v g → is_goal S v g ≡ true
unfolding is_goal
is_goal_lem S v g l h r = go (eqb v 2) refl (eqb v 3) refl
  where
    go : (t : Bool) → eqb v 2 ≡ t → (u : Bool) → eqb v 3 ≡ u → pick t (is_mandatory S g) (pick u (member g (required S)) (is_open S g)) ≡ true
    go true p u q = r.two (eqb-true v 2 p)
    go false p true q = r.three (eqb-true v 3 q)
    go false p false q = let a = eqb-false v 2 p in let b = eqb-false v 3 q in r.four (omega arith)

-- what 18 asks, part by part
pub record WellFormed (S : Sheet) (s : Slip) : Type 0 where
  pub known : every (λ i. ltb i (item_count S.graph)) (s.goals ++ s.reasons) ≡ true
  pub goals : ascends s.goals ≡ true
  pub reasons : ascends s.reasons ≡ true
  pub count : goal_count s.first (length s.goals) ≡ true

parts_formed : (S : Sheet) (s : Slip) → WellFormed S s → well_formed S s ≡ true
unfolding well_formed
parts_formed S s w = true_and w.known (true_and w.goals (true_and w.reasons w.count))

formed_parts : (S : Sheet) (s : Slip) → well_formed S s ≡ true → WellFormed S s
unfolding well_formed
formed_parts S s w =
    let c : Bool = goal_count s.first (length s.goals) in
    let a = and_true (every (λ i. ltb i (item_count S.graph)) (s.goals ++ s.reasons)) (ascends s.goals && (ascends s.reasons && c)) w in
    let b = and_true (ascends s.goals) (ascends s.reasons && c) a.1 in
    let d = and_true (ascends s.reasons) c b.1 in
    record { known = a.0; goals = b.0; reasons = d.0; count = d.1 }

-- of a well-formed 1 there are no goals
no_goals : (S : Sheet) (s : Slip) → s.first ≡ 1 → WellFormed S s → s.goals ≡ []
unfolding goal_count
no_goals S s e w = go s.goals (eqb-true (length s.goals) 0 (let z : eqb s.first 1 ≡ true = eq-eqb s.first 1 e in rw z at w.count))
  where
    go : (gs : List ℕ) → length gs ≡ 0 → gs ≡ []
    go [] q = refl
    go (g ∷ gs) q = absurd (omega arith)

-- yes exactly when the rule holds
holds_rule : (S : Sheet) (s : Slip) → holds S s ≡ true → Rule S s
unfolding holds
holds_rule S s e =
    let f : Bool = fits S.graph S.source S.target S.limit (λ j. member j s.reasons) s.goals in
    let a = and_true (every (is_forbidden S) s.reasons) (every (is_goal S s.first) s.goals && not f) e in
    let b = and_true (every (is_goal S s.first) s.goals) (not f) a.1 in
    record {
      closed = λ r m. every_at (is_forbidden S) s.reasons r a.0 m;
      goals = λ g m. goal_of S s.first g (every_at (is_goal S s.first) s.goals g b.0 m);
      reason = fits_none S.graph S.source S.target S.limit (λ j. member j s.reasons) s.goals (not_true f b.1);
    }

rule_holds : (S : Sheet) (s : Slip) → 1 ≤ s.first → s.first ≤ 4 → WellFormed S s → Rule S s → holds S s ≡ true
unfolding holds
rule_holds S s l h w r =
    true_and (every_all (is_forbidden S) s.reasons r.closed)
    (true_and (every_all (is_goal S s.first) s.goals (λ g m. goal g m (true_or_false (eqb s.first 1))))
    (ap not (none_fits S.graph S.source S.target S.limit (λ j. member j s.reasons) s.goals r.reason)))
  where
    goal : (g : ℕ) → member g s.goals ≡ true → (eqb s.first 1 ≡ true) ⊎ (eqb s.first 1 ≡ false) → is_goal S s.first g ≡ true
    goal g m (inl q) = absurd (member_none g (rw (no_goals S s (eqb-true s.first 1 q) w) at m))
    goal g m (inr q) = let n = eqb-false s.first 1 q in is_goal_lem S s.first g (omega arith) h (r.goals g m)

module _ (sheet : List ℕ) (S : Sheet) (a : taken sheet ≡ got S []) where
  -- 18 is drawn exactly by a slip that is not well formed
  pub check_forms : (slip : List ℕ) (s : Slip) → read_slip slip ≡ got s [] → (check_on sheet slip ≡ refuse 18) ↔ (well_formed S s ≡ false)
  unfolding check_on judged_on after
  check_forms slip s e = (λ q. forth (well_formed S s) (rw (a, e) at q), λ q. rw (a, e, q))
    where
      forth : (t : Bool) → pick t (got (holds S s) []) (refuse 18) ≡ refuse 18 → t ≡ false
      forth true q = absurd (let z : ◌≡◌ {A = ℕ} 0 1 = cc in omega arith)
      forth false q = refl

  -- Check says yes to a well-formed slip exactly when its rule holds.
  pub check_exact : (slip : List ℕ) (s : Slip) → read_slip slip ≡ got s [] → well_formed S s ≡ true → (check_on sheet slip ≡ got true []) ↔ Rule S s
  unfolding check_on judged_on after
  check_exact slip s e w = (λ q. holds_rule S s (forth (rw (a, e, w) at q)), λ r. rw (a, e, w) (ap (λ (b : Bool). got b []) (yes r)))
    where
      forth : got (holds S s) [] ≡ got true [] → holds S s ≡ true
      forth q = cc

      yes : Rule S s → holds S s ≡ true
      yes r = let f = slip_read slip s [] e in rule_holds S s f.0 f.1 (formed_parts S s w) r

below_every : (n : ℕ) (xs : List ℕ) → Below n xs → every (λ i. ltb i n) xs ≡ true
below_every n [] b = refl
below_every n (x ∷ xs) b = true_and (lt-ltb x n b.0) (below_every n xs b.1)

-- a slip with the reasons for its goals is well formed and keeps the rule, where no walk meets the goals
own_rule : (S : Sheet) (v : ℕ) (goals : List ℕ) → fits_sheet S goals ≡ false → ((g : ℕ) → member g goals ≡ true → GoalOf S v g) → Rule S (slip_for S v goals)
unfolding slip_for
own_rule S v goals e d = record { closed = listed_forbidden S goals; goals = d; reason = list_valid S goals e }

own_formed : (S : Sheet) (v : ℕ) (goals : List ℕ) → Goals S goals → goal_count v (length goals) ≡ true → WellFormed S (slip_for S v goals)
unfolding slip_for
own_formed S v goals G c = record {
  known = below_every (item_count S.graph) (goals ++ reasons_for S goals) (below_append (item_count S.graph) goals (reasons_for S goals) G.items (reasons_below S goals));
  goals = G.rising;
  reasons = reasons_rise S goals;
  count = c;
}

-- the goals of a verdict are counted and of the kind that its number says
record Kinds (S : Sheet) (v : Verdict) : Type 0 where
  count : goal_count v.number (length v.goals) ≡ true
  kind : (g : ℕ) → member g v.goals ≡ true → GoalOf S v.number g

verdict_kinds : (S : Sheet) → length (required S) ≤ 8 → ((verdict S).number ≡ 0 → ⊥) → Kinds S (verdict S)
unfolding goal_count
verdict_kinds S f n = go (verdict S) (verdict_is S) n
  where
    some : fits_sheet S [] ≡ true → fits_sheet S (required S) ≡ false → 1 ≤ length (required S)
    some p q = more (required S) refl
      where
        more : (rs : List ℕ) → required S ≡ rs → 1 ≤ length rs
        more [] e = absurd (true≢false (sym p ∙ ap (fits_sheet S) (sym e) ∙ q))
        more (r ∷ rs) e = omega arith

    go : (v : Verdict) → VerdictIs S v → (v.number ≡ 0 → ⊥) → Kinds S v
    go v (one e) n = record { count = refl; kind = λ g m. absurd (member_none g m) }
    go v (two i s h m e l) n = record {
      count = refl;
      kind = λ g q. record { two = λ _. rw (member_one g i q) m; three = λ z. absurd (omega (arith, z)); four = λ z. absurd (omega (arith, z)) };
    }
    go v (three s m e) n = record {
      count = true_and (le-leb 1 (length (required S)) (some s e)) (le-leb (length (required S)) 8 f);
      kind = λ g q. record { two = λ z. absurd (omega (arith, z)); three = λ _. q; four = λ z. absurd (omega (arith, z)) };
    }
    go v (stands s m e) n = absurd (n refl)

module _ (sheet : List ℕ) (S : Sheet) (a : taken sheet ≡ got S []) where
  -- check says yes to what pass writes for a refused round
  pub check_pass : (s : Slip) (r : Refuses sheet s) → check_on sheet r.slip ≡ got true []
  check_pass s r =
      let y = refuses_is sheet S a s r in
      let f = (taken_got sheet S [] a).0.few in
      let K = verdict_kinds S f y.0 in
      let w : WellFormed S s = subst (λ (s : Slip). WellFormed S s) (sym y.1) (own_formed S (verdict S).number (verdict S).goals (verdict_goals S f) K.count) in
      let h : Rule S s = subst (λ (s : Slip). Rule S s) (sym y.1) (own_rule S (verdict S).number (verdict S).goals (refused_goals S y.0) K.kind) in
      (check_exact sheet S a r.slip s r.says (parts_formed S s w)).1 h

  -- and to what reason writes for a pruned item
  pub check_reason : (i : ℕ) (s : Slip) (x : Explains sheet i s) → check_on sheet x.slip ≡ got true []
  unfolding is_pruned goal_count ascends
  check_reason i s x =
      let y = explained sheet S i s a x in
      let p = and_true (is_open S i) (not (fits_sheet S (i ∷ []))) y.2 in
      let G : Goals S (i ∷ []) = record { few = omega arith; items = (y.0, tt); rising = refl } in
      let w : WellFormed S s = subst (λ (s : Slip). WellFormed S s) (sym y.3) (own_formed S 4 (i ∷ []) G refl) in
      let h : Rule S s = subst (λ (s : Slip). Rule S s) (sym y.3)
      (own_rule S 4 (i ∷ []) (not_true (fits_sheet S (i ∷ [])) p.1) (λ g m. record { two = λ z. absurd (omega (arith, z)); three = λ z. absurd (omega (arith, z)); four = λ _. rw (member_one g i m) p.0 })) in
      (check_exact sheet S a x.slip s x.says (parts_formed S s w)).1 h
