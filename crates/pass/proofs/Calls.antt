-- Demand 2 on the operation: what a call of pass that answers 0 has written, and that `refused_again` and `refused_minimal` hold of the slip of a refused
-- round. Its contract says that a call gives and leaves `passed`, so each statement here is one about every such call. Assumes nothing.
use Prim.Native.Nat.{ℕ, ◌<◌}
use mathlib.Core.Path.{◌≡◌, sym, ap, ◌∙◌}
use mathlib.Core.Logic.{◌↔◌}
use mathlib.Core.Bool.{true}
use mathlib.Core.List.{List, [], ◌∷◌}
use Rattle.sheet.specs.Sheet.{Sheet, is_open}
use Rattle.sheet.specs.Slip.{Slip, read_slip}
use Rattle.varint.specs.Varint.{got}
use Rattle.pass.proofs.OutcomeLaws.{call_writes}
use Rattle.pass_rules.proofs.WithinLaws.{pass_took, pass_within}
use Rattle.pass_rules.proofs.Demand2.{Refusal, finished_is, verdict_in_lem, prune_exact, refuse_exact, is_refused}
use Rattle.pass_rules.proofs.VerdictLaws.{NoWalkOn}
use Rattle.sheet.specs.Reader.{taken}
use Rattle.sheet.specs.Answer.{finished}
use Rattle.pass_rules.specs.Pass.{pass_on, passed, written, verdict_in, mark_in, Refuses}
use Rattle.pass_rules.specs.Verdict.{verdict, slip_for}
use Rattle.walks.specs.Graph.{item_count}

-- a call that answers 0: the sheet is taken, and the stated slip stands in front
pub record Finished (sheet work slip : List ℕ) : Type 0 where
  pub read : Sheet
  pub took : taken sheet ≡ got read []
  pub writes : pass_on sheet ≡ finished (written (passed sheet work slip))

pub call_finished : (sheet work slip : List ℕ) → (passed sheet work slip).number ≡ 0 → Finished sheet work slip
unfolding passed
call_finished sheet work slip z =
    let f = call_writes (pass_on sheet) work slip (pass_within sheet) z in
    let t = pass_took sheet (written (passed sheet work slip)) f in
    record { read = t.0; took = t.1; writes = f }

module _ (sheet work slip : List ℕ) (z : (passed sheet work slip).number ≡ 0) where
  -- a call that answers 0 with verdict 0 has struck off an open item exactly when no walk through it keeps to the limit
  pub call_prunes : verdict_in (written (passed sheet work slip)) ≡ 0
      → (S : Sheet) × (taken sheet ≡ got S [])
      × ((i : ℕ) → i < item_count S.graph → is_open S i ≡ true → (mark_in (written (passed sheet work slip)) i ≡ 2) ↔ NoWalkOn S (i ∷ []))
  call_prunes v =
      let f = call_finished sheet work slip z in
      (f.read, f.took, prune_exact sheet f.read f.took (written (passed sheet work slip)) f.writes v)

  -- a call that answers 0 has refused the round exactly when a walk is missing
  pub call_refuses : (S : Sheet) × (taken sheet ≡ got S []) × (((s : Slip) × Refuses sheet s) ↔ Refusal S)
  call_refuses = let f = call_finished sheet work slip z in (f.read, f.took, refuse_exact sheet f.read f.took)

  -- a call that answers 0 with another verdict has refused the round: what it left reads as the verdict, its goals and the reasons for them
  pub call_refused : (verdict_in (written (passed sheet work slip)) ≡ 0 → ⊥)
      → (S : Sheet) × (taken sheet ≡ got S [])
      × (read_slip (written (passed sheet work slip)) ≡ got (slip_for S (verdict S).number (verdict S).goals) [])
      × Refuses sheet (slip_for S (verdict S).number (verdict S).goals)
  call_refused n =
      let f = call_finished sheet work slip z in
      let S = f.read in
      let r = is_refused sheet S f.took (λ v. n (verdict_in_lem sheet S f.took (written (passed sheet work slip)) f.writes ∙ v)) in
      let e = finished_is r.slip (written (passed sheet work slip)) (sym r.finishes ∙ f.writes) in
      (S, f.took, ap read_slip (sym e) ∙ r.says, r)
