-- What 18 asks, test by test; a list that is longer than it may be is not well formed, and a slip that is well formed can be asked for a least length.
-- Assumes nothing.
use Prim.Native.Nat.{ℕ, ◌+◌, ◌≤◌, ◌<◌}
use mathlib.Core.Path.{◌≡◌, refl, sym, ap, ◌∙◌}
use mathlib.Core.Logic.{⊎_elim}
use mathlib.Core.Bool.{Bool, true, false, ◌&&◌, ◌||◌}
use mathlib.Core.List.{List, [], ◌∷◌, ◌++◌}
use native.Mathlib.Omega.{arith}
use lib.ListN.{length, get_or}
use lib.Dec.{eqb, ltb, leb}
use borrow.Author.Tests.{ltb-true, eqb-true, leb-true}
use Rattle.lists.specs.Lists.{pick, every, ascends}
use Rattle.lists.proofs.TestLaws.{and_true, false_of, or_true}
use Rattle.lists.proofs.MemberLaws.{every_at, place_member}
use Rattle.lists.proofs.AscendLaws.{ascends_distinct}
use Rattle.lists.proofs.Pigeonhole.{pigeonhole, below_all}
use Rattle.walks.specs.declared.arc.Arc.{Arc}
use Rattle.walks.specs.Graph.{item_count}
use Rattle.walks.specs.Flat.{graph_of}
use Rattle.sheet.specs.declared.Header.{Header}
use Rattle.sheet.specs.Sheet.{Sheet, sheet_of}
use Rattle.sheet_required.specs.Whole.{Whole}
use Rattle.slip_reader.specs.Form.{slip_from}
use Rattle.sheet_required.proofs.WholeLaws.{items_are}
use Rattle.check_rules.specs.Check.{goal_count, well_formed}
use Rattle.check_claim.specs.Claim.{Claimed}

pub and_assoc : (a b c : Bool) → ((a && b) && c) ≡ (a && (b && c))
and_assoc true b c = refl
and_assoc false b c = refl

regroup : (a b c d e : Bool) → (((a && c) && (b && d)) && e) ≡ (a && (b && (c && (d && e))))
regroup true true c d e = and_assoc c d e
regroup true false true d e = refl
regroup true false false d e = refl
regroup false b c d e = refl

every_append : (f : ℕ → Bool) (xs ys : List ℕ) → every f (xs ++ ys) ≡ (every f xs && every f ys)
every_append f [] ys = refl
every_append f (x ∷ xs) ys = rw (every_append f xs ys) (sym (and_assoc (f x) (every f xs) (every f ys)))

-- the tests, in the order in which they are made
module _ (S : Sheet) (items first : ℕ) (goals reasons : List ℕ) (k : item_count S.graph ≡ items) where
  pub formed_is : (a b c d e : Bool) → a ≡ every (λ i. ltb i items) goals → b ≡ every (λ i. ltb i items) reasons → c ≡ ascends goals → d ≡ ascends reasons
      → e ≡ goal_count first (length goals) → (a && (b && (c && (d && e)))) ≡ well_formed S (slip_from first goals reasons)
  unfolding well_formed
  formed_is a b c d e p q r s t =
      let p' : a ≡ every (λ i. ltb i (item_count S.graph)) goals = p ∙ ap (λ (m : ℕ). every (λ i. ltb i m) goals) (sym k) in
      let q' : b ≡ every (λ i. ltb i (item_count S.graph)) reasons = q ∙ ap (λ (m : ℕ). every (λ i. ltb i m) reasons) (sym k) in
      rw (every_append, ← p', ← q', ← r, ← s, ← t) (sym (and_assoc a b (c && (d && e))))

  -- the same tests list by list
  pub formed_chain : {v : Bool}
      → v ≡ (((every (λ i. ltb i items) goals && ascends goals) && (every (λ i. ltb i items) reasons && ascends reasons)) && goal_count first (length goals))
      → v ≡ well_formed S (slip_from first goals reasons)
  formed_chain e =
      let a = every (λ i. ltb i items) goals in
      let b = every (λ i. ltb i items) reasons in
      let g = goal_count first (length goals) in
      e ∙ regroup a b (ascends goals) (ascends reasons) g ∙ formed_is a b (ascends goals) (ascends reasons) g refl refl refl refl refl

-- the parts of a slip that is well formed
record Parts (S : Sheet) (first : ℕ) (goals reasons : List ℕ) : Type 0 where
  goals_known : every (λ i. ltb i (item_count S.graph)) goals ≡ true
  reasons_known : every (λ i. ltb i (item_count S.graph)) reasons ≡ true
  goals_rise : ascends goals ≡ true
  reasons_rise : ascends reasons ≡ true
  counted : goal_count first (length goals) ≡ true

parts : (S : Sheet) (first : ℕ) (goals reasons : List ℕ) → well_formed S (slip_from first goals reasons) ≡ true → Parts S first goals reasons
parts S first goals reasons w =
    let A = every (λ i. ltb i (item_count S.graph)) goals in
    let B = every (λ i. ltb i (item_count S.graph)) reasons in
    let C = ascends goals in
    let D = ascends reasons in
    let E = goal_count first (length goals) in
    let a = and_true A (B && (C && (D && E))) (formed_is S _ first goals reasons refl A B C D E refl refl refl refl refl ∙ w) in
    let b = and_true B (C && (D && E)) a.1 in
    let c = and_true C (D && E) b.1 in
    let d = and_true D E c.1 in
    record { goals_known = a.0; reasons_known = b.0; goals_rise = c.0; reasons_rise = d.0; counted = d.1 }

few_counted : (first count : ℕ) → goal_count first count ≡ true → count ≤ 8
unfolding goal_count
few_counted first count e = go (eqb first 1) (eqb first 3) e
  where
    go : (t u : Bool) → pick t (eqb count 0) (pick u (leb 1 count && leb count 8) (eqb count 1)) ≡ true → count ≤ 8
    go true u q = omega (arith, eqb-true count 0 q)
    go false true q = leb-true count 8 (and_true (leb 1 count) (leb count 8) q).1
    go false false q = omega (arith, eqb-true count 1 q)

-- with more than eight goals, or more reasons than items, a slip is not well formed
many_goals : (S : Sheet) (first : ℕ) (goals reasons : List ℕ) → 8 < length goals → well_formed S (slip_from first goals reasons) ≡ false
many_goals S first goals reasons h =
    false_of (well_formed S (slip_from first goals reasons)) (λ w. absurd (omega (arith, few_counted first (length goals) (parts S first goals reasons w).counted)))

few_reasons : (n : ℕ) (xs : List ℕ) → ascends xs ≡ true → every (λ i. ltb i n) xs ≡ true → length xs ≤ n
few_reasons n xs a e = pigeonhole n xs (ascends_distinct xs a) (below_all n xs (λ x m. ltb-true x n (every_at (λ i. ltb i n) xs x e m)))

many_reasons : (S : Sheet) (first : ℕ) (goals reasons : List ℕ) → item_count S.graph < length reasons → well_formed S (slip_from first goals reasons) ≡ false
many_reasons S first goals reasons h =
    false_of (well_formed S (slip_from first goals reasons))
    (λ w. let P = parts S first goals reasons w in absurd (omega (arith, few_reasons (item_count S.graph) reasons P.reasons_rise P.reasons_known)))

-- more goals or reasons than any slip that is well formed has
pub too_many : (S : Sheet) (first : ℕ) (goals reasons : List ℕ) {g r n : ℕ} → length goals ≡ g → length reasons ≡ r → item_count S.graph ≡ n
    → (ltb 8 g || ltb n r) ≡ true → well_formed S (slip_from first goals reasons) ≡ false
too_many S first goals reasons {g} {r} {n} p q k t =
    ⊎_elim (λ h. many_goals S first goals reasons (omega (arith, ltb-true 8 g h))) (λ h. many_reasons S first goals reasons (omega (arith, ltb-true n r h))) (or_true (ltb 8 g) (ltb n r) t)

-- a slip that is well formed for a whole sheet can be asked for a least length
pub formed_asked : {h : Header} {arcs : List Arc} {marks : List ℕ} (first : ℕ) (goals reasons : List ℕ) → Whole h arcs marks
    → well_formed (sheet_of h arcs marks) (slip_from first goals reasons) ≡ true → Claimed h arcs goals reasons
formed_asked {h} {arcs} {marks} first goals reasons W w = record {
  proper = λ ms l. record { few = W.proper.few; marked = omega (arith, W.sized.0, W.few, W.proper.few); tails = W.proper.tails; heads = W.proper.heads };
  fit = λ ms. record { eight = few_counted first (length goals) P.counted; below = λ i l. omega (arith, known i l, W.sized.0); distinct = ascends_distinct goals P.goals_rise };
  items = λ j m. omega (arith, ltb-true j _ (every_at (λ i. ltb i (item_count (graph_of h.nodes arcs))) reasons j P.reasons_known m), items_are W, W.few, W.proper.few);
}
  where
    P : Parts (sheet_of h arcs marks) first goals reasons
    P = parts (sheet_of h arcs marks) first goals reasons w

    known : (i : ℕ) → i < length goals → get_or goals i 0 < h.nodes + h.arcs
    known i l = omega (arith, ltb-true (get_or goals i 0) _ (every_at (λ i. ltb i (item_count (graph_of h.nodes arcs))) goals (get_or goals i 0) P.goals_known (place_member goals i l)), items_are W)
