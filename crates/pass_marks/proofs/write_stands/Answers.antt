-- `pass_marks::write_stands` meets its contract: the marks are put behind the number 0. Assumes nothing.
use native.Mathlib.Omega.{arith}
use Rattle.pass_rules.specs.Verdict.{new_marks}
use Rattle.pass_rules.proofs.SlipOfPass.{new_marks_size}
use Rattle.sheet.specs.Sheet.{sheet_of}
use Rattle.sheet_required.proofs.WholeLaws.{items_are}
use Rattle.pass_marks.proofs.SlipLaws.{zero_front}
use Rattle.pass_marks.proofs.write_stands.Goals as goal

pub returns : goal.returns
returns c =
    let m = c.put_marks in
    let s = c.args.rows.now.sheet in
    let S = sheet_of s.header s.arcs.now s.marks.now in
    (omega (arith, new_marks_size S, items_are s.whole), zero_front c.args.slip.now c.requires (new_marks S) m.new.out m.ensures)
