-- `judge` meets its contract: what check answers, then the slot of the slip. Assumes nothing.
use mathlib.Core.Path.{ap, ◌∙◌}
use mathlib.Core.Bool.{Bool}
use mathlib.Core.List.{[]}
use Rattle.varint.specs.Varint.{got}
use Rattle.store.proofs.PuttingLaws.{judges_refused, judges_no, judges_yes}
use Rattle.store.proofs.ResultLaws.{err_given}
use Rattle.store.proofs.judge.Goals as goal

pub returns-in_err-yes : goal.returns-in_err-yes
returns-in_err-yes c = rw (err_given c.from_residual.result c.in_err-yes.field-0.0 c.from_residual.ensures.1) (judges_refused _ _ _ c.in_err-yes.ensures.refused)

pub returns-then-not-yes : goal.returns-then-not-yes
returns-then-not-yes c = judges_no _ _ (c.in_ok-yes.ensures.judged ∙ ap (λ (b : Bool). got b []) c.if-not-yes.true)

pub returns : goal.returns
returns c = judges_yes _ _ (c.in_ok-yes.ensures.judged ∙ ap (λ (b : Bool). got b []) c.if-not-yes.false) c.slot_of.ensures
