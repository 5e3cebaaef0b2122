-- `header_numbers` lists the five numbers; each is below 2 to the 28, and so none is cut. Assumes nothing.
use mathlib.Core.Path.{refl}
use native.Mathlib.Omega.{arith}
use Rattle.sheet.specs.Draft.{header_numbers}
use Rattle.varint.proofs.WriteLaws.{small_at}
use Rattle.sheet_writer.proofs.header_numbers.Goals as goal

pub overflow_cast-result : goal.overflow_cast-result
unfolding header_numbers
overflow_cast-result c = omega (arith, small_at _ 0 c.requires (omega arith))

pub overflow_cast-result-2 : goal.overflow_cast-result-2
unfolding header_numbers
overflow_cast-result-2 c = omega (arith, small_at _ 1 c.requires (omega arith))

pub overflow_cast-result-3 : goal.overflow_cast-result-3
unfolding header_numbers
overflow_cast-result-3 c = omega (arith, small_at _ 2 c.requires (omega arith))

pub overflow_cast-result-4 : goal.overflow_cast-result-4
unfolding header_numbers
overflow_cast-result-4 c = omega (arith, small_at _ 3 c.requires (omega arith))

pub returns : goal.returns
unfolding header_numbers
returns c = refl
