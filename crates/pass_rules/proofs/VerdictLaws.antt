-- The verdict by cases: what holds where each is given. Assumes nothing.
use Prim.Native.Nat.{ℕ, ◌≤◌, ◌<◌}
use mathlib.Core.Path.{◌≡◌, refl, sym, ap, ◌∙◌}
use mathlib.Core.Logic.{◌↔◌}
use mathlib.Core.Bool.{Bool, true, false, not, ◌&&◌, true≢false}
use mathlib.Core.List.{List, [], ◌∷◌}
use native.Mathlib.Omega.{arith}
use Rattle.lists.proofs.AscendLaws.{keep_lowest}
use Rattle.lists.proofs.MemberLaws.{member_head, member_one, member_none, keep_member, member_keep}
use Rattle.lists.proofs.TestLaws.{and_true, true_and, true_of, false_of, not_true}
use Rattle.lists.specs.Lists.{pick, member}
use Rattle.sheet.proofs.MarkLaws.{is_item, item_is, open_mark}
use Rattle.sheet.specs.Sheet.{Sheet, mark_of, is_open, is_mandatory, is_forbidden, all_items, is_forced, required}
use Rattle.walks.proofs.FitsLaws.{fits_mono, fits_none, none_fits, fits_some, some_fits}
use Rattle.walks.proofs.GoalLaws.{Includes}
use Rattle.walks.proofs.Join.{meets_all}
use Rattle.walks.proofs.LeastLaw.{fit_walk, walk_fit}
use Rattle.walks.specs.Graph.{item_count, items}
use Rattle.walks.specs.Walk.{NoWalk, SomeWalk}
use Rattle.pass_rules.specs.Verdict.{fits_sheet, unmet, Verdict, verdict_from, verdict, is_pruned, new_mark}

-- no walk from source to target, clear of the forbidden items, meets the goals within the limit; some walk does
abbrev pub NoWalkOn : Sheet → List ℕ → Type 0
NoWalkOn S goals = NoWalk S.graph S.source S.target S.limit (is_forbidden S) goals

abbrev pub SomeWalkOn : Sheet → List ℕ → Type 0
SomeWalkOn S goals = SomeWalk S.graph S.source S.target S.limit (is_forbidden S) goals

module _ (S : Sheet) (goals : List ℕ) where
  pub no_walk : (fits_sheet S goals ≡ false) ↔ NoWalkOn S goals
  unfolding fits_sheet
  no_walk = (fits_none S.graph S.source S.target S.limit (is_forbidden S) goals, none_fits S.graph S.source S.target S.limit (is_forbidden S) goals)

  pub some_walk : (fits_sheet S goals ≡ true) ↔ SomeWalkOn S goals
  unfolding fits_sheet
  some_walk = (fits_some S.graph S.source S.target S.limit (is_forbidden S) goals, some_fits S.graph S.source S.target S.limit (is_forbidden S) goals)

pub fits_fewer : (S : Sheet) (gs gs' : List ℕ) → Includes gs gs' → fits_sheet S gs ≡ true → fits_sheet S gs' ≡ true
unfolding fits_sheet
fits_fewer S gs gs' n e =
    fits_mono S.graph S.source S.target S.limit S.limit (is_forbidden S) (is_forbidden S) gs gs' (λ j h o. o) n (omega arith) e

-- the walk that meets some goals also fits whatever else it meets
module _ (S : Sheet) (goals : List ℕ) (v : SomeWalkOn S goals) where
  pub met_fits : (gs : List ℕ) → ((g : ℕ) → member g gs ≡ true → member g (items S.graph S.source v.way) ≡ true) → fits_sheet S gs ≡ true
  met_fits gs h =
      let f = fit_walk S.graph (is_forbidden S) goals S.target S.source v.way v.fitting in
      (some_walk S gs).1
      (record {
        way = v.way;
        fitting = walk_fit S.graph (is_forbidden S) gs S.target S.source v.way f.0 (meets_all S.graph gs S.source v.way h);
        short = v.short;
      })

  pub one_fits : (i : ℕ) → member i (items S.graph S.source v.way) ≡ true → fits_sheet S (i ∷ []) ≡ true
  one_fits i m = met_fits (i ∷ []) (λ g q. rw (member_one g i q) m)

-- each mandatory item is met by some walk
abbrev pub EachMet : Sheet → Type 0
EachMet S = (i : ℕ) → i < item_count S.graph → is_mandatory S i ≡ true → fits_sheet S (i ∷ []) ≡ true

-- The verdict by cases.
pub data VerdictIs (S : Sheet) : Verdict → Type 0 where
  one : fits_sheet S [] ≡ false → VerdictIs S (record { number = 1; goals = [] })
  two : (i : ℕ) → fits_sheet S [] ≡ true → i < item_count S.graph → is_mandatory S i ≡ true → fits_sheet S (i ∷ []) ≡ false
      → ((j : ℕ) → j < i → is_mandatory S j ≡ true → fits_sheet S (j ∷ []) ≡ true) → VerdictIs S (record { number = 2; goals = i ∷ [] })
  three : fits_sheet S [] ≡ true → EachMet S → fits_sheet S (required S) ≡ false → VerdictIs S (record { number = 3; goals = required S })
  stands : fits_sheet S [] ≡ true → EachMet S → fits_sheet S (required S) ≡ true → VerdictIs S (record { number = 0; goals = [] })

-- a mandatory item that no walk meets is unmet, and the other way
missed : Sheet → ℕ → Bool
missed S i = is_mandatory S i && not (fits_sheet S (i ∷ []))

met_or : (S : Sheet) (j : ℕ) → missed S j ≡ false → is_mandatory S j ≡ true → fits_sheet S (j ∷ []) ≡ true
unfolding missed
met_or S j e m = true_of (fits_sheet S (j ∷ [])) (λ q. true≢false (sym (true_and m (ap not q)) ∙ e))

unmet_none : (S : Sheet) → unmet S ≡ [] → EachMet S
unfolding unmet missed
unmet_none S e i h m = met_or S i (false_of (missed S i) (λ q. member_none i (rw e at (member_keep (missed S) i (all_items S.graph) (is_item S.graph i h) q)))) m

unmet_first : (S : Sheet) (i : ℕ) (is : List ℕ) → unmet S ≡ i ∷ is
    → (i < item_count S.graph) × (is_mandatory S i ≡ true) × (fits_sheet S (i ∷ []) ≡ false) × ((j : ℕ) → j < i → is_mandatory S j ≡ true → fits_sheet S (j ∷ []) ≡ true)
unfolding unmet missed all_items
unmet_first S i is e =
    let m = keep_member (missed S) i (all_items S.graph) (rw e (member_head i is)) in
    let s = and_true (is_mandatory S i) (not (fits_sheet S (i ∷ []))) m.1 in
    (item_is S.graph i m.0, s.0, not_true (fits_sheet S (i ∷ [])) s.1, λ j h q. met_or S j (keep_lowest (missed S) (item_count S.graph) 0 i is e j (omega arith) h) q)

pub verdict_is : (S : Sheet) → VerdictIs S (verdict S)
unfolding verdict verdict_from
verdict_is S = go (fits_sheet S []) refl (unmet S) refl (fits_sheet S (required S)) refl
  where
    go : (t : Bool) → fits_sheet S [] ≡ t → (u : List ℕ) → unmet S ≡ u → (p : Bool) → fits_sheet S (required S) ≡ p → VerdictIs S (verdict_from t u p (required S))
    go false q u u≡ p p≡ = one q
    go true q (i ∷ is) u≡ p p≡ = let s = unmet_first S i is u≡ in two i q s.0 s.1 s.2 s.3
    go true q [] u≡ false p≡ = three q (unmet_none S u≡) p≡
    go true q [] u≡ true p≡ = stands q (unmet_none S u≡) p≡

-- where the verdict is 0, all is met
pub record Stands (S : Sheet) : Type 0 where
  pub some : fits_sheet S [] ≡ true
  pub each : EachMet S
  pub together : fits_sheet S (required S) ≡ true

stands_of : (S : Sheet) (v : Verdict) → VerdictIs S v → v.number ≡ 0 → Stands S
stands_of S v (one f) e = absurd (omega (arith, e))
stands_of S v (two i f h m n l) e = absurd (omega (arith, e))
stands_of S v (three f m n) e = absurd (omega (arith, e))
stands_of S v (stands f m n) e = record { some = f; each = m; together = n }

pub stands_all : (S : Sheet) → (verdict S).number ≡ 0 → Stands S
stands_all S e = stands_of S (verdict S) (verdict_is S) e

of_stands : (S : Sheet) (v : Verdict) → VerdictIs S v → Stands S → v.number ≡ 0
of_stands S v (one f) z = absurd (true≢false (sym z.some ∙ f))
of_stands S v (two i f h m n l) z = absurd (true≢false (sym (z.each i h m) ∙ n))
of_stands S v (three f m n) z = absurd (true≢false (sym z.together ∙ n))
of_stands S v (stands f m n) z = refl

pub all_stands : (S : Sheet) → Stands S → (verdict S).number ≡ 0
all_stands S z = of_stands S (verdict S) (verdict_is S) z

-- the verdict is at most 3
pub verdict_low : (S : Sheet) → (verdict S).number ≤ 3
verdict_low S = go (verdict S) (verdict_is S)
  where
    go : (v : Verdict) → VerdictIs S v → v.number ≤ 3
    go v (one f) = omega arith
    go v (two i f h m n l) = omega arith
    go v (three f m n) = omega arith
    go v (stands f m n) = omega arith

-- the goals of a refused round are met by no walk
pub refused_goals : (S : Sheet) → ((verdict S).number ≡ 0 → ⊥) → fits_sheet S (verdict S).goals ≡ false
refused_goals S n = go (verdict S) (verdict_is S) n
  where
    go : (v : Verdict) → VerdictIs S v → (v.number ≡ 0 → ⊥) → fits_sheet S v.goals ≡ false
    go v (one f) n = f
    go v (two i f h m z l) n = z
    go v (three f m z) n = z
    go v (stands f m z) n = absurd (n refl)

-- the mark of an open item after verdict 0
new_mark_open : (S : Sheet) (i : ℕ) → is_open S i ≡ true → new_mark S i ≡ pick (not (fits_sheet S (i ∷ []))) 2 (pick (is_forced S i) 1 0)
unfolding new_mark is_pruned
new_mark_open S i o = rw (o, (open_mark S i).0 o)

pub pruned_mark : (S : Sheet) (i : ℕ) → is_open S i ≡ true → (new_mark S i ≡ 2) ↔ (fits_sheet S (i ∷ []) ≡ false)
pruned_mark S i o = (λ e. go (fits_sheet S (i ∷ [])) (is_forced S i) (sym (new_mark_open S i o) ∙ e), λ n. new_mark_open S i o ∙ rw n)
  where
    go : (t f : Bool) → ◌≡◌ {A = ℕ} (pick (not t) 2 (pick f 1 0)) 2 → t ≡ false
    go false f e = refl
    go true true e = absurd (omega (arith, e))
    go true false e = absurd (omega (arith, e))

-- other marks stay as they were
pub other_mark : (S : Sheet) (i : ℕ) → is_open S i ≡ false → new_mark S i ≡ mark_of S i
unfolding new_mark is_pruned
other_mark S i o = rw o

pub forbidden_stays : (S : Sheet) (i : ℕ) → mark_of S i ≡ 2 → new_mark S i ≡ 2
forbidden_stays S i e = other_mark S i (false_of (is_open S i) (λ o. absurd (omega (arith, (open_mark S i).0 o, e)))) ∙ e

pub mandatory_stays : (S : Sheet) (i : ℕ) → mark_of S i ≡ 1 → new_mark S i ≡ 1
mandatory_stays S i e = other_mark S i (false_of (is_open S i) (λ o. absurd (omega (arith, (open_mark S i).0 o, e)))) ∙ e

pub new_mark_low : (S : Sheet) (i : ℕ) → mark_of S i ≤ 2 → new_mark S i ≤ 2
unfolding new_mark
new_mark_low S i h = go (is_pruned S i) (is_open S i && is_forced S i)
  where
    go : (t f : Bool) → pick t 2 (pick f 1 (mark_of S i)) ≤ 2
    go true f = omega arith
    go false true = omega arith
    go false false = h

-- an open item that becomes mandatory is forced, and one that is forced and met becomes mandatory
pub mark_forced : (S : Sheet) (i : ℕ) → is_open S i ≡ true → fits_sheet S (i ∷ []) ≡ true → is_forced S i ≡ true → new_mark S i ≡ 1
mark_forced S i o m f = new_mark_open S i o ∙ rw (m, f)

pub forced_mark : (S : Sheet) (i : ℕ) → is_open S i ≡ true → new_mark S i ≡ 1 → is_forced S i ≡ true
forced_mark S i o e = go (fits_sheet S (i ∷ [])) (is_forced S i) (sym (new_mark_open S i o) ∙ e)
  where
    go : (t f : Bool) → ◌≡◌ {A = ℕ} (pick (not t) 2 (pick f 1 0)) 1 → f ≡ true
    go false f e = absurd (omega (arith, e))
    go true true e = refl
    go true false e = absurd (omega (arith, e))
