-- From what the code finds to the answer on a slip that is well written. Assumes nothing.
use Prim.Native.Nat.{ℕ}
use mathlib.Core.Path.{◌≡◌}
use mathlib.Core.Bool.{Bool, true, false, not, ◌&&◌}
use mathlib.Core.List.{List, []}
use Rattle.lists.specs.Lists.{member, every}
use Rattle.varint.specs.Varint.{Read, got, refuse}
use Rattle.walks.specs.Graph.{fits}
use Rattle.sheet.specs.Sheet.{Sheet, is_forbidden}
use Rattle.sheet.specs.Slip.{Slip}
use Rattle.slip_reader.specs.Form.{slip_from}
use Rattle.check_claim.proofs.FormLaws.{and_assoc}
use Rattle.check_rules.specs.Check.{well_formed, is_goal, holds, judged_on}

module _ (S : Sheet) (s : Slip) where
  -- 18 where the slip is not well formed
  pub answer_formed : well_formed S s ≡ false → judged_on S s [] ≡ refuse 18
  unfolding judged_on
  answer_formed e = rw e

  -- yes where the reasons and the goals are of their kinds and no walk fits; no otherwise
  pub answer_judged : (k f : Bool) {answer : Bool} → well_formed S s ≡ true → k ≡ (every (is_forbidden S) s.reasons && every (is_goal S s.first) s.goals)
      → f ≡ fits S.graph S.source S.target S.limit (λ j. member j s.reasons) s.goals → answer ≡ (k && not f) → judged_on S s [] ≡ got answer []
  unfolding judged_on holds
  answer_judged k f w p q e = rw (w, ← q, e, p, and_assoc)

-- the answer speaks of the first number and the lists as the slip has them
pub of_lists : (S : Sheet) {v w : ℕ} {xs ys goals reasons : List ℕ} {r : Read Bool} → v ≡ w → xs ≡ goals → ys ≡ reasons → judged_on S (slip_from v xs ys) [] ≡ r
    → judged_on S (slip_from w goals reasons) [] ≡ r
of_lists S u p q e = rw (← u, ← p, ← q) e
