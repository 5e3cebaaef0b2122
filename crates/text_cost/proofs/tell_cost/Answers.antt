-- `tell_cost` tells what the number in front draws, or the answer for it and the bytes behind it.
use mathlib.Core.Path.{◌∙◌}
use Rattle.text_cost.proofs.AskedLaws.{read_text, unread_text}
use Rattle.text_cost.proofs.tell_cost.Goals as goal

pub returns-in-Ok : goal.returns-in-Ok
returns-in-Ok c = c.answered.ensures ∙ read_text c.args.input.now _ _ c.in-Ok.ensures.got

pub returns-in-Err : goal.returns-in-Err
returns-in-Err c = unread_text c.args.input.now _ c.in-Err.ensures.refused
