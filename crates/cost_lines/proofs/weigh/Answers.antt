-- A listed closure is an item; behind the last one each has its line, and the lines do not speak of the sheet's marks.
use Rattle.std.proofs.Common.{[], ◌∙◌, ap, arith}
use Rattle.std.specs.List.{flat_map}
use lib.Seq.{take_all}
use Rattle.lists.proofs.MemberLaws.{place_member}
use Rattle.sheet.specs.Sheet.{sheet_of}
use Rattle.cost_rules.specs.Cost.{opened_line}
use Rattle.lengths.specs.Told.{as_least}
use Rattle.cost_lines.proofs.LengthLaws.{costs_are}
use Rattle.cost_lines.proofs.weigh.Goals as goal

pub length_opened-requires : goal.length_opened-requires
length_opened-requires g c =
    (c.requires.0, c.requires.1, c.requires.1 _ (place_member c.args.list.now c.loop-closure.closure-index (omega (arith, c.loop-closure-test.true))))

pub returns : goal.returns
returns g c =
    let a = c.args in
    let s = a.sheet.now in
    let whole = ap (flat_map (opened_line (sheet_of s.header s.arcs.now []) a.item a.list.now)) (take_all c.loop-closure.closure-index a.list.now (omega (arith, c.loop-closure-test.false))) in
    costs_are s.header s.arcs.now s.marks.now a.list.now a.item (as_least c.length_through-length.result) _ c.length_through-length.ensures (c.loop-closure.invariant.1 ∙ whole)
