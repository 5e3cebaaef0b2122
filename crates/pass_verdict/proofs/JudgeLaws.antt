-- From what the code finds to the verdict. Assumes nothing.
use Prim.Native.Nat.{ℕ, suc, ◌+◌, ◌≤◌, ◌<◌}
use mathlib.Core.Path.{◌≡◌, refl, sym, ap, ◌∙◌}
use mathlib.Core.Bool.{Bool, true, false, not, ◌&&◌}
use mathlib.Core.List.{List, [], ◌∷◌}
use native.Mathlib.Omega.{arith}
use lib.ListN.{length, get_or}
use Rattle.sheet.specs.declared.Header.{Header}
use Rattle.goal_table.specs.Table.{GoalsFit, Rowed}
use Rattle.lists.proofs.AscendLaws.{ascends_distinct, keep_none, keep_first}
use Rattle.sheet_required.proofs.WholeLaws.{items_are, goals_at}
use Rattle.sheet_required.specs.Whole.{Whole}
use Rattle.rows.specs.Net.{net_of}
use Rattle.sheet.proofs.MarkLaws.{required_ascend, required_below}
use Rattle.sheet.specs.Sheet.{Sheet, is_mandatory, all_items, required, sheet_of}
use Rattle.pass_rules.specs.Verdict.{fits_sheet, unmet, verdict_from, verdict}
use Rattle.walks.specs.declared.arc.Arc.{Arc}
use Rattle.walks.specs.Flat.{graph_of}
use Rattle.walks.specs.Graph.{item_count}
use Rattle.std.specs.Prelude.{Some, None, slice_get}
use Rattle.pass_verdict.specs.declared.Verdict.{Verdict}
use Rattle.pass_verdict.specs.declared.Verdict.TheVariants.{Stands, NoWay, Unmet, Apart}
use Rattle.pass_verdict.specs.VerdictFound.{goals_of, number_of_verdict, VerdictFound}

module _ {h : Header} {arcs : List Arc} {marks : List ℕ} (W : Whole h arcs marks) where
  -- the item is mandatory, and no walk meets it
  abbrev pub missed : ℕ → Bool
  missed i = is_mandatory (sheet_of h arcs marks) i && not (fits_sheet (sheet_of h arcs marks) (i ∷ []))

  -- the first that is unmet, and none where none is
  pub first_is : (i : ℕ) → i < h.nodes + h.arcs → ((j : ℕ) → j < i → missed j ≡ false) → missed i ≡ true
      → Some i ≡ slice_get (unmet (sheet_of h arcs marks)) 0
  unfolding unmet all_items
  first_is i b n e =
      go (unmet (sheet_of h arcs marks))
      (keep_first missed (item_count (graph_of h.nodes arcs)) 0 i (suc i) (omega arith) (omega (arith, items_are W)) (λ j l g. n j g) e)
    where
      go : (u : List ℕ) → get_or u 0 (suc i) ≡ i → Some i ≡ slice_get u 0
      go [] q = absurd (omega (arith, q))
      go (x ∷ xs) q = ap Some (sym q)

  pub none_is : ((j : ℕ) → j < h.nodes + h.arcs → missed j ≡ false) → None ≡ slice_get (unmet (sheet_of h arcs marks)) 0
  unfolding unmet all_items
  none_is n = rw (keep_none missed (item_count (graph_of h.nodes arcs)) 0 (λ j l g. n j (omega (arith, items_are W)))) refl

  -- the required items as goals
  pub required_fit : GoalsFit (net_of h.nodes arcs marks) (required (sheet_of h arcs marks))
  required_fit = record {
    eight = W.eight;
    below = λ i l. omega (arith, goals_at (item_count (graph_of h.nodes arcs)) i (required (sheet_of h arcs marks)) (required_below (sheet_of h arcs marks)) l, items_are W);
    distinct = ascends_distinct (required (sheet_of h arcs marks)) (required_ascend (sheet_of h arcs marks));
  }

first_same : {i j : ℕ} → Some i ≡ Some j → i ≡ j
first_same e = cc

-- an item that is found is the first that is unmet; where none is found, none is unmet
pub unmet_found : (u : List ℕ) (i : ℕ) → Some i ≡ slice_get u 0 → (is : List ℕ) × (u ≡ i ∷ is)
unmet_found [] i e = absurd cc
unmet_found (x ∷ xs) i e = (xs, ap (λ (y : ℕ). y ∷ xs) (sym (first_same e)))

pub unmet_empty : (u : List ℕ) → None ≡ slice_get u 0 → u ≡ []
unmet_empty [] e = refl
unmet_empty (x ∷ xs) e = absurd cc

-- the four verdicts
module _ (h : Header) (arcs : List Arc) (marks scratch : List ℕ) where
  abbrev S : Sheet
  S = sheet_of h arcs marks

  pub judged_no_way : fits_sheet S [] ≡ false → VerdictFound h arcs marks NoWay scratch
  unfolding verdict verdict_from
  judged_no_way e = record { number = rw e; goals = rw e; few = omega arith; rowed = λ q. absurd (omega arith) }

  pub judged_unmet : (i : ℕ) (is : List ℕ) → fits_sheet S [] ≡ true → unmet S ≡ i ∷ is → VerdictFound h arcs marks (Unmet i) scratch
  unfolding verdict verdict_from
  judged_unmet i is e u = record { number = rw (e, u); goals = rw (e, u); few = omega arith; rowed = λ q. absurd (omega arith) }

  module _ (e : fits_sheet S [] ≡ true) (u : unmet S ≡ []) where
    pub judged_apart : (v : Verdict) → number_of_verdict v ≡ 3 → fits_sheet S (required S) ≡ false → goals_of v ≡ required S → length (required S) ≤ 8
        → Rowed (net_of h.nodes arcs marks) h.limit h.source (goals_of v) scratch → VerdictFound h arcs marks v scratch
    unfolding verdict verdict_from
    judged_apart v n f t l r = record { number = rw (e, u, f) n; goals = rw (e, u, f) t; few = rw t l; rowed = λ q. r }

    pub judged_stands : fits_sheet S (required S) ≡ true → VerdictFound h arcs marks Stands scratch
    unfolding verdict verdict_from
    judged_stands f = record { number = rw (e, u, f); goals = rw (e, u, f); few = omega arith; rowed = λ q. absurd (omega arith) }

module _ (S : Sheet) where
  -- with nothing required, what any walk meets is met
  pub nothing_required : fits_sheet S [] ≡ true → length (required S) ≡ 0 → fits_sheet S (required S) ≡ true
  nothing_required e l = go (required S) refl l
    where
      go : (rs : List ℕ) → required S ≡ rs → length rs ≡ 0 → fits_sheet S (required S) ≡ true
      go [] q z = ap (fits_sheet S) q ∙ e
      go (r ∷ rs) q z = absurd (omega arith)

-- what the mark and the walks say of one item
pub missed_item : (S : Sheet) (i : ℕ) (r : Bool) → is_mandatory S i ≡ true → r ≡ fits_sheet S (i ∷ []) → r ≡ false → (is_mandatory S i && not (fits_sheet S (i ∷ []))) ≡ true
missed_item S i r m e z = rw m (ap not (sym e ∙ z))

pub met_item : (S : Sheet) (i : ℕ) (r : Bool) → is_mandatory S i ≡ true → r ≡ fits_sheet S (i ∷ []) → r ≡ true → (is_mandatory S i && not (fits_sheet S (i ∷ []))) ≡ false
met_item S i r m e z = rw m (ap not (sym e ∙ z))

pub other_item : (S : Sheet) (i : ℕ) → is_mandatory S i ≡ false → (is_mandatory S i && not (fits_sheet S (i ∷ []))) ≡ false
other_item S i m = rw m

-- only the verdict that stands has the number 0
pub refused_number : (v : Verdict) → (v ≡ Stands → ⊥) → number_of_verdict v ≡ 0 → ⊥
refused_number Stands n e = n refl
refused_number NoWay n e = absurd (omega arith)
refused_number (Unmet i) n e = absurd (omega arith)
refused_number (Apart goals) n e = absurd (omega arith)
