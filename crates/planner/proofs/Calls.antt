-- What one call leaves goes into the next: a call of check that is lent enough work says yes to the slip that a call of pass which refused the round left, and
-- to the one that a finished call of reason left. The contracts say that calls give and leave `passed`, `reasoned` and `checked`. Assumes nothing.
use Prim.Native.Nat.{ℕ, ◌≤◌}
use mathlib.Core.Path.{◌≡◌, sym, ap, ◌∙◌}
use mathlib.Core.Bool.{true}
use mathlib.Core.List.{List, [], ◌∷◌}
use lib.ListN.{length}
use borrow.Author.Tests.{le-ltb}
use Rattle.reason_rules.specs.Reason.{reasoned}
use Rattle.pass.proofs.Calls as pass
use Rattle.reason.proofs.Calls as reason
use Rattle.sheet.specs.Lent.{work_numbers, zeroed}
use Rattle.varint.specs.Varint.{got}
use Rattle.pass_rules.proofs.Demand2.{finished_is}
use Rattle.pass_rules.specs.Pass.{passed, written, verdict_in}
use Rattle.pass_rules.specs.Verdict.{verdict, slip_for}
use Rattle.check_rules.proofs.CheckLaws.{check_pass, check_reason}
use Rattle.check_rules.specs.Check.{check_outcome, check_on, checked}

module _ (sheet work slip lent : List ℕ) (h : work_numbers ≤ length lent) where
  says_yes : (bytes : List ℕ) → check_on sheet bytes ≡ got true [] → checked sheet lent bytes ≡ record { number = 0; yes = true; work = zeroed lent }
  unfolding checked check_outcome
  says_yes bytes e = rw (le-ltb (length lent) work_numbers h, e)

  pub call_check_pass : (passed sheet work slip).number ≡ 0 → (verdict_in (written (passed sheet work slip)) ≡ 0 → ⊥)
      → checked sheet lent (written (passed sheet work slip)) ≡ record { number = 0; yes = true; work = zeroed lent }
  call_check_pass z n =
      let c = pass.call_refused sheet work slip z n in
      let s = slip_for c.0 (verdict c.0).number (verdict c.0).goals in
      let e = finished_is c.3.slip (written (passed sheet work slip)) (sym c.3.finishes ∙ (pass.call_finished sheet work slip z).writes) in
      says_yes (written (passed sheet work slip)) (ap (check_on sheet) (sym e) ∙ check_pass sheet c.0 c.1 s c.3)

  pub call_check_reason : (i : ℕ) → (reasoned sheet work slip i).number ≡ 0 → checked sheet lent (written (reasoned sheet work slip i)) ≡ record { number = 0; yes = true; work = zeroed lent }
  call_check_reason i z =
      let c = reason.call_explains sheet work slip i z in
      let e = finished_is c.3.slip (written (reasoned sheet work slip i)) (sym c.3.finishes ∙ (reason.call_finished sheet work slip i z).writes) in
      says_yes (written (reasoned sheet work slip i)) (ap (check_on sheet) (sym e) ∙ check_reason sheet c.0 c.1 i (slip_for c.0 4 (i ∷ [])) c.3)
