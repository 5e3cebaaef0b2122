-- `listed` reads the list out of the slip, which reads back since reason wrote it.
use native.Mathlib.Omega.{arith}
use mathlib.Core.List.{[], ◌∷◌}
use mathlib.Core.Path.{◌∙◌}
use Rattle.sheet.specs.Sheet.{sheet_of}
use Rattle.sheet_required.proofs.WholeLaws.{items_are}
use Rattle.text_cost.proofs.AskedLaws.{never_unformed, listed, listed_markable}
use Rattle.text_cost.proofs.listed.Goals as goal

pub returns-in-Err : goal.returns-in-Err
returns-in-Err c =
    let W = c.args.sheet.now.whole in
    absurd (never_unformed (sheet_of c.args.sheet.now.header c.args.sheet.now.arcs.now c.args.sheet.now.marks.now) W.good c.args.item (omega (arith, items_are W, c.requires.0)) c.args.slip.now c.requires.1 c.in-Err.ensures.refused.1)

pub read-closures-requires : goal.read-closures-requires
read-closures-requires c = (listed (sheet_of c.args.sheet.now.header c.args.sheet.now.arcs.now c.args.sheet.now.marks.now) c.args.sheet.now.whole.good c.args.item (omega (arith, items_are c.args.sheet.now.whole, c.requires.0)) c.args.slip.now c.requires.1 c.in-Ok.form c.in-Ok.ensures.got).many

pub weigh-requires : goal.weigh-requires
weigh-requires c =
    let W = c.args.sheet.now.whole in
    let S = sheet_of c.args.sheet.now.header c.args.sheet.now.arcs.now c.args.sheet.now.marks.now in
    let T = (listed S W.good c.args.item (omega (arith, items_are W, c.requires.0)) c.args.slip.now c.requires.1 c.in-Ok.form c.in-Ok.ensures.got) in
    rw (c.read-closures.ensures ∙ T.is) (omega arith, (c.requires.0, listed_markable S W.good (c.args.item ∷ []), omega (arith, T.count, T.many)))

pub returns-in-Ok : goal.returns-in-Ok
returns-in-Ok c = let T = (listed (sheet_of c.args.sheet.now.header c.args.sheet.now.arcs.now c.args.sheet.now.marks.now) c.args.sheet.now.whole.good c.args.item (omega (arith, items_are c.args.sheet.now.whole, c.requires.0)) c.args.slip.now c.requires.1 c.in-Ok.form c.in-Ok.ensures.got) in rw (c.read-closures.ensures ∙ T.is) at c.weigh.ensures
