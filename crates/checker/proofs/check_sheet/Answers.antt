-- `checker::check_sheet` meets its contract: a refused sheet, or what the slip draws on the sheet that was read. Assumes nothing.
use Rattle.checker.proofs.CheckedLaws.{good_sheet}
use Rattle.checker.proofs.check_sheet.Goals as goal

pub returns-clause-judged : goal.returns-clause-judged
returns-clause-judged c = rw (good_sheet _ _ _ c.in_ok-taken.ensures.loaded.makes) c.answer_taken.ensures.judged

pub returns-clause-refused : goal.returns-clause-refused
returns-clause-refused c = rw (good_sheet _ _ _ c.in_ok-taken.ensures.loaded.makes) c.answer_taken.ensures.refused
