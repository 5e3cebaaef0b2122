-- The difference fits 64 bits, and as a signed number it is the line's own form.
use Rattle.std.proofs.Common.{◌≡◌, ap, ◌∙◌, [], ◌∷◌, ◌++◌, pos, ◌-ℤ◌, w64, to_z, of_z, arith}
use Rattle.std.proofs.Output.{has_written_of_eq}
use Rattle.std.proofs.lemmas.Int.{ints}
use Rattle.std.specs.Fmt.{signed_decimal}
use Rattle.text_lines.proofs.LineLaws.{difference_signed}
use Rattle.text_lines.proofs.display.DifferenceLineDisplay.fmt.Goals as goal

pub returns-clause-writes : goal.returns-clause-writes
returns-clause-writes g c p ok =
    let k = c.args.self.now.whole in
    let a = c.args.self.now.part in
    let fits : to_z w64 (of_z w64 (to_z w64 (of_z w64 c.from.result) -ℤ to_z w64 (of_z w64 c.from-2.result))) ≡ pos k -ℤ pos a = search (arith, ints, c.from.ensures, c.from-2.ensures) in
    has_written_of_eq _ _ _ _ _ (ap (λ z. signed_decimal z ++ (10 ∷ [])) fits ∙ difference_signed k a) (c.write.ensures.writes p ok)
