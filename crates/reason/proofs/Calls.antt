-- Demand 3 on the operation: a call of reason that answers 0 explains its item, so that `pruned_again` and `pruned_minimal` hold of the slip it wrote.
-- Assumes nothing.
use Prim.Native.Nat.{ℕ}
use mathlib.Core.Path.{◌≡◌, sym, ap, ◌∙◌}
use mathlib.Core.List.{List, [], ◌∷◌}
use Rattle.sheet.specs.Sheet.{Sheet}
use Rattle.sheet.specs.Slip.{read_slip}
use Rattle.varint.specs.Varint.{got}
use Rattle.pass_rules.proofs.Demand2.{finished_is}
use Rattle.sheet.specs.Reader.{taken}
use Rattle.sheet.specs.Answer.{finished}
use Rattle.pass_rules.specs.Pass.{written}
use Rattle.pass_rules.specs.Verdict.{slip_for}
use Rattle.pass.proofs.OutcomeLaws.{call_writes}
use Rattle.reason_rules.proofs.WithinLaws.{reason_within}
use Rattle.reason_rules.proofs.AnswerLaws.{reason_took, reason_finished, reason_finishes}
use Rattle.reason_rules.specs.Later.{Explains}
use Rattle.reason_rules.specs.Reason.{reason_on, reasoned}

-- a call that answers 0: the sheet is taken, and the stated slip stands in front
pub record Finished (sheet work slip : List ℕ) (i : ℕ) : Type 0 where
  pub read : Sheet
  pub took : taken sheet ≡ got read []
  pub writes : reason_on sheet i ≡ finished (written (reasoned sheet work slip i))

pub call_finished : (sheet work slip : List ℕ) (i : ℕ) → (reasoned sheet work slip i).number ≡ 0 → Finished sheet work slip i
unfolding reasoned
call_finished sheet work slip i z =
    let f = call_writes (reason_on sheet i) work slip (reason_within sheet i) z in
    let t = reason_took sheet i (written (reasoned sheet work slip i)) f in
    record { read = t.0; took = t.1; writes = f }

-- what the call left reads as a 4, the item as its only goal, and the reasons for it
pub call_explains : (sheet work slip : List ℕ) (i : ℕ) → (reasoned sheet work slip i).number ≡ 0
    → (S : Sheet) × (taken sheet ≡ got S []) × (read_slip (written (reasoned sheet work slip i)) ≡ got (slip_for S 4 (i ∷ [])) [])
    × Explains sheet i (slip_for S 4 (i ∷ []))
call_explains sheet work slip i z =
    let f = call_finished sheet work slip i z in
    let S = f.read in
    let k = reason_finished sheet S i (written (reasoned sheet work slip i)) f.took f.writes in
    let x = reason_finishes sheet S i f.took k.item k.stands k.pruned in
    let e = finished_is x.slip (written (reasoned sheet work slip i)) (sym x.finishes ∙ f.writes) in
    (S, f.took, ap read_slip (sym e) ∙ x.says, x)
