-- The operation reason: its answer on every input, and what it leaves.
use Rattle.std.specs.Prelude.{ℕ, Bool, ◌&&◌, List, [], ◌∷◌, eqb, ltb}
use Rattle.lists.specs.Lists.{pick}
use Rattle.varint.specs.Varint.{Read, got, refuse, after}
use Rattle.walks.specs.Graph.{item_count}
use Rattle.sheet.specs.Sheet.{Sheet}
use Rattle.sheet.specs.Slip.{slip_bytes}
use Rattle.sheet.specs.Reader.{taken}
use Rattle.pass_rules.specs.Verdict.{verdict, is_pruned, slip_for}
use Rattle.sheet.specs.Answer.{Answer, answer_of}
use Rattle.pass_rules.specs.Pass.{Outcome, outcome, lent_enough}

-- the pass on this sheet prunes the item
unfoldable pub prunes : Sheet → ℕ → Bool
prunes S i = eqb (verdict S).number 0 && is_pruned S i

-- 15: no such item; 16: the pass does not prune it; otherwise the slip of a pruned item, which is its own single goal
unfoldable pub reason_in : ℕ → Sheet → List ℕ → Read (List ℕ)
reason_in i S rest =
    pick (ltb i (item_count S.graph)) (pick (prunes S i) (got (slip_bytes (slip_for S 4 (i ∷ []))) rest) (refuse 16)) (refuse 15)

unfoldable pub reason_on : List ℕ → ℕ → Answer
reason_on sheet i = answer_of (after (taken sheet) (reason_in i))

-- reason, for every sheet, work, slip and item number
unfoldable pub reasoned : List ℕ → List ℕ → List ℕ → ℕ → Outcome
reasoned sheet work slip i = outcome (lent_enough work slip (reason_on sheet i)) work slip
