-- `stands` lists the items newly forbidden by the sheet's marks, which it reads again, and by those of the slip.
use Rattle.std.proofs.Common.{refl, sym, ap, ◌∙◌, arith}
use Rattle.text_answer.specs.Text.{stands_text}
use Rattle.text_report.proofs.SizeLaws.{newly_short}
use Rattle.text_report.proofs.SlipTextLaws.{never_refused, stands_is}
use Rattle.text_report.proofs.stands.Goals as goal

pub newly_forbidden_indices-requires : goal.newly_forbidden_indices-requires
newly_forbidden_indices-requires c = let T = (stands_is c.args.sheet.now c.args.slip.now _ _ c.requires.0 c.requires.1 c.in-Ok.ensures.loaded.makes refl) in (omega arith, (T.longer, T.few))

pub items-requires : goal.items-requires
items-requires c =
    let T = (stands_is c.args.sheet.now c.args.slip.now _ _ c.requires.0 c.requires.1 c.in-Ok.ensures.loaded.makes refl) in
    (omega arith, (omega arith, rw c.newly_forbidden_indices.ensures (newly_short c.in-Ok.taken.marks.now c.args.slip.now T.few)))

pub returns-in-Ok : goal.returns-in-Ok
returns-in-Ok c =
    let T = (stands_is c.args.sheet.now c.args.slip.now _ _ c.requires.0 c.requires.1 c.in-Ok.ensures.loaded.makes refl) in
    ap stands_text (c.items.ensures ∙ c.newly_forbidden_indices.ensures) ∙ sym T.printed

pub returns-in-Err : goal.returns-in-Err
returns-in-Err c = absurd (never_refused c.args.sheet.now c.args.slip.now _ c.requires.0 c.in-Err.ensures.taken_refused)
