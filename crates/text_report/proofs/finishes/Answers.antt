-- `finishes` goes by the slip's first number.
use Rattle.std.proofs.Common.{sym, ◌∙◌, arith}
use Rattle.text_report.proofs.SlipTextLaws.{slip_some, blamed_text}
use Rattle.text_report.proofs.finishes.Goals as goal

pub bounds-slip-0 : goal.bounds-slip-0
bounds-slip-0 c = slip_some c.args.sheet.now c.args.slip.now c.requires

pub returns : goal.returns
returns c = c.blames.ensures ∙ sym (blamed_text c.args.sheet.now c.args.slip.now (λ z. omega (arith, z, c.if-slip-eq0.false)))
