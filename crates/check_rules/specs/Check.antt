-- The operation check: its answer on every input, and what it leaves.
use Rattle.std.specs.Prelude.{ℕ, Bool, false, not, ◌&&◌, List, ◌++◌, length, eqb, ltb, leb, Result, Ok, Err}
use Rattle.lists.specs.Lists.{pick, member, every, ascends}
use Rattle.varint.specs.declared.refusal.Refusal.{Refusal}
use Rattle.varint.specs.Varint.{Read, got, refuse, after}
use Rattle.walks.specs.Graph.{item_count, fits}
use Rattle.sheet.specs.Sheet.{Sheet, is_open, is_mandatory, is_forbidden, required}
use Rattle.sheet.specs.Slip.{Slip, read_slip}
use Rattle.sheet.specs.Lent.{work_numbers, zeroed, work_after}
use Rattle.sheet.specs.Reader.{taken}

-- goal counts 0, 1, 1 to 8, 1 for first numbers 1, 2, 3, 4
unfoldable pub goal_count : ℕ → ℕ → Bool
goal_count v count = pick (eqb v 1) (eqb count 0) (pick (eqb v 3) (leb 1 count && leb count 8) (eqb count 1))

-- what 18 asks: known items, goals and reasons strictly ascending, the goal count
unfoldable pub well_formed : Sheet → Slip → Bool
well_formed S s =
    every (λ i. ltb i (item_count S.graph)) (s.goals ++ s.reasons)
    && (ascends s.goals && (ascends s.reasons && goal_count s.first (length s.goals)))

-- a goal is mandatory for 2, required for 3, open for 4
unfoldable pub is_goal : Sheet → ℕ → ℕ → Bool
is_goal S v g = pick (eqb v 2) (is_mandatory S g) (pick (eqb v 3) (member g (required S)) (is_open S g))

-- yes: every reason is forbidden on the sheet, the goals are as the first number says, and the list is a reason for them at the sheet's limit
unfoldable pub holds : Sheet → Slip → Bool
holds S s =
    every (is_forbidden S) s.reasons
    && (every (is_goal S s.first) s.goals
    && not (fits S.graph S.source S.target S.limit (λ j. member j s.reasons) s.goals))

unfoldable pub judged_on : Sheet → Slip → List ℕ → Read Bool
judged_on S s rest = pick (well_formed S s) (got (holds S s) rest) (refuse 18)

-- 3 to 13 for the sheet, then 17 and 18 for the slip; yes or no
unfoldable pub check_on : List ℕ → List ℕ → Read Bool
check_on sheet slip = after (taken sheet) (λ S rest. after (read_slip slip) (judged_on S))

-- What a call gives and leaves: the refusal number, 0 where it finished; yes or no; what the work holds. The slip is only read.
pub record CheckOutcome : Type 0 where
  pub number : ℕ
  pub yes : Bool
  pub work : List ℕ

unfoldable pub check_outcome : Read Bool → List ℕ → CheckOutcome
check_outcome (got answer rest) work = record { number = 0; yes = answer; work = zeroed work }
check_outcome (refuse e) work = record { number = e; yes = false; work = work_after e work }

-- what a call's result says, no where it was refused
abbrev pub yes_in : Result Bool Refusal → Bool
yes_in (Ok answer) = answer
yes_in (Err why) = false

-- check, for every sheet, work and slip; 1: work under 16,384 numbers
unfoldable pub checked : List ℕ → List ℕ → List ℕ → CheckOutcome
checked sheet work slip = check_outcome (pick (ltb (length work) work_numbers) (refuse 1) (check_on sheet slip)) work
