-- `tell` tells what its call of pass answers: the refusal, or what the slip says.
use Rattle.std.proofs.Common.{sym, ◌∙◌, arith}
use Rattle.text_report.proofs.AnswerLaws.{answer_finishes, refused_text_lem, finished_text, work_left, refuses, finishes}
use Rattle.text_report.proofs.tell.Goals as goal

pub slice_bounds-slip-end : goal.slice_bounds-slip-end
slice_bounds-slip-end c = (finishes c.args.sheet.now c.args.work.now _ (omega arith) _ c.pass.ensures c.in-Ok.is).within

pub slice_bounds-finishes-end : goal.slice_bounds-finishes-end
slice_bounds-finishes-end c = (finishes c.args.sheet.now c.args.work.now _ (omega arith) _ c.pass.ensures c.in-Ok.is).size

pub finishes-requires : goal.finishes-requires
finishes-requires c = answer_finishes c.args.sheet.now c.args.work.now _ (finishes c.args.sheet.now c.args.work.now _ (omega arith) _ c.pass.ensures c.in-Ok.is).is

pub returns-in-Ok-clause-text_of_sheet : goal.returns-in-Ok-clause-text_of_sheet
returns-in-Ok-clause-text_of_sheet c =
    c.finishes.ensures ∙ sym (finished_text c.args.sheet.now (finishes c.args.sheet.now c.args.work.now _ (omega arith) _ c.pass.ensures c.in-Ok.is).is)

pub returns-in-Ok-clause-work_as_outcome : goal.returns-in-Ok-clause-work_as_outcome
returns-in-Ok-clause-work_as_outcome c = work_left c.args.sheet.now c.args.work.now _ (omega arith) _ c.pass.ensures

pub returns-in-Err-clause-text_of_sheet : goal.returns-in-Err-clause-text_of_sheet
returns-in-Err-clause-text_of_sheet c = sym (refused_text_lem c.args.sheet.now (refuses c.args.sheet.now c.args.work.now _ (omega arith) _ c.pass.ensures c.in-Err.is))

pub returns-in-Err-clause-work_as_outcome : goal.returns-in-Err-clause-work_as_outcome
returns-in-Err-clause-work_as_outcome c = work_left c.args.sheet.now c.args.work.now _ (omega arith) _ c.pass.ensures
