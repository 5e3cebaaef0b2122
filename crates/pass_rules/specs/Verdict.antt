-- The verdict, the marks that a pass leaves and its slip (document 01, 'The pass, in its order').
use Rattle.std.specs.Prelude.{ℕ, zero, suc, Bool, true, false, not, ◌&&◌, List, [], ◌∷◌, map}
use Rattle.lists.specs.Lists.{pick, keep}
use Rattle.walks.specs.Graph.{fits}
use Rattle.sheet.specs.Sheet.{Sheet, mark_of, is_open, is_mandatory, is_forbidden, all_items, is_forced, required}
use Rattle.sheet.specs.Slip.{Slip, slip_bytes, marks_bytes}
use Rattle.reason_list.specs.Reasons.{reasons}

-- some walk from source to target, clear of the forbidden items, meets the goals within the limit
unfoldable pub fits_sheet : Sheet → List ℕ → Bool
fits_sheet S goals = fits S.graph S.source S.target S.limit (is_forbidden S) goals

-- the mandatory items that no such walk meets, ascending
unfoldable pub unmet : Sheet → List ℕ
unmet S = keep (λ i. is_mandatory S i && not (fits_sheet S (i ∷ []))) (all_items S.graph)

-- a verdict with its goals
pub record Verdict : Type 0 where
  pub number : ℕ
  pub goals : List ℕ

-- from: some walk fits; the mandatory items that none meets; some walk meets all required items; the required items
unfoldable pub verdict_from : Bool → List ℕ → Bool → List ℕ → Verdict
verdict_from false missed all items = record { number = 1; goals = [] }
verdict_from true (i ∷ missed) all items = record { number = 2; goals = i ∷ [] }
verdict_from true [] false items = record { number = 3; goals = items }
verdict_from true [] true items = record { number = 0; goals = [] }

unfoldable pub verdict : Sheet → Verdict
verdict S = verdict_from (fits_sheet S []) (unmet S) (fits_sheet S (required S)) (required S)

-- an open item that no such walk meets is pruned (document 01: struck off)
unfoldable pub is_pruned : Sheet → ℕ → Bool
is_pruned S i = is_open S i && not (fits_sheet S (i ∷ []))

-- an item's mark after a pass with verdict 0: one that is pruned becomes forbidden, an open node that is source, target or an end of a mandatory arc
-- mandatory, and nothing else changes
unfoldable pub new_mark : Sheet → ℕ → ℕ
new_mark S i = pick (is_pruned S i) 2 (pick (is_open S i && is_forced S i) 1 (mark_of S i))

unfoldable pub new_marks : Sheet → List ℕ
new_marks S = map (new_mark S) (all_items S.graph)

-- the reasons that a sheet gives for goals, at its own limit
unfoldable pub reasons_for : Sheet → List ℕ → List ℕ
reasons_for S goals = reasons S.graph S.source S.target S.limit goals S.marks

-- the slip that names the goals and their reasons
unfoldable pub slip_for : Sheet → ℕ → List ℕ → Slip
slip_for S first goals = record { first = first; goals = goals; reasons = reasons_for S goals }

-- the bytes of the pass's slip
unfoldable pub pass_slip : Sheet → Verdict → List ℕ
pass_slip S v = elim v.number [ zero ↦ marks_bytes (new_marks S) | suc k ↦ slip_bytes (slip_for S (suc k) v.goals) ]
