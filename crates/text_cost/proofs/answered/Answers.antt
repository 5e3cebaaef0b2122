-- `answered` tells what its call of reason answers: the refusal, or the costs.
use mathlib.Core.Path.{sym}
use Rattle.pass.proofs.OutcomeLaws.{refused_result, finished_result}
use Rattle.reason_rules.proofs.WithinLaws.{reason_within}
use Rattle.text_cost.proofs.AskedLaws.{refused_text_lem}
use Rattle.text_cost.proofs.answered.Goals as goal

pub slice_bounds-slip-end : goal.slice_bounds-slip-end
slice_bounds-slip-end c = (finished_result _ c.reason_sheet.ensures (reason_within _ _) c.in-Ok.is).within

pub slice_bounds-explained-end : goal.slice_bounds-explained-end
slice_bounds-explained-end c = (finished_result _ c.reason_sheet.ensures (reason_within _ _) c.in-Ok.is).size

pub explained-requires : goal.explained-requires
explained-requires c = (finished_result _ c.reason_sheet.ensures (reason_within _ _) c.in-Ok.is).is

pub returns-in-Err : goal.returns-in-Err
returns-in-Err c = sym (refused_text_lem _ _ _ (refused_result _ c.reason_sheet.ensures (reason_within _ _) c.in-Err.is))
