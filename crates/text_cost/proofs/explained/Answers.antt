-- `explained` reads the sheet again: reason finished, so it is taken and the item is pruned.
use mathlib.Core.Path.{sym, ◌∙◌}
use native.Mathlib.Omega.{arith}
use Rattle.sheet_required.proofs.WholeLaws.{items_are}
use Rattle.reason_rules.proofs.AnswerLaws.{reason_finished}
use Rattle.text_cost.proofs.AskedLaws.{never_refused, finished_text}
use Rattle.text_cost.proofs.explained.Goals as goal

pub returns-in-Err : goal.returns-in-Err
returns-in-Err c = absurd (never_refused _ _ _ _ c.requires c.in-Err.ensures.taken_refused)

pub listed-requires : goal.listed-requires
listed-requires c =
    let L = c.in-Ok.ensures.loaded in
    let F = (reason_finished _ _ _ _ L.makes c.requires) in
    (omega (arith, items_are L.whole, F.item), F.bytes)

pub returns-in-Ok : goal.returns-in-Ok
returns-in-Ok c = c.listed.ensures ∙ sym (finished_text _ _ _ _ c.in-Ok.ensures.loaded.makes c.requires)
