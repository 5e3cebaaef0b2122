-- `blames` reads the goals and the reasons out of the slip, which reads back since the pass wrote it.
use Rattle.std.proofs.Common.{sym, arith}
use Rattle.text_report.proofs.SlipTextLaws.{never_unformed, told}
use Rattle.text_report.proofs.blames.Goals as goal

pub listed-requires : goal.listed-requires
listed-requires c = (omega arith, (told c.requires.0 c.args.slip.now c.requires.1 (λ z. omega (arith, c.requires.2, z)) c.in-Ok.form c.in-Ok.ensures.got).few)

pub listed-requires-in-Ok : goal.listed-requires-in-Ok
listed-requires-in-Ok c = (omega arith, (told c.requires.0 c.args.slip.now c.requires.1 (λ z. omega (arith, c.requires.2, z)) c.in-Ok.form c.in-Ok.ensures.got).many)

pub returns-in-Ok : goal.returns-in-Ok
returns-in-Ok c = let T = told c.requires.0 c.args.slip.now c.requires.1 (λ z. omega (arith, c.requires.2, z)) c.in-Ok.form c.in-Ok.ensures.got in rw (c.from.ensures, c.listed.ensures, c.listed-in-Ok.ensures) (sym T.printed)

pub returns-in-Err : goal.returns-in-Err
returns-in-Err c = absurd (never_unformed c.requires.0 c.args.slip.now c.requires.1 (λ z. omega (arith, c.requires.2, z)) c.in-Err.ensures.refused.1)
