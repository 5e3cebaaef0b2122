-- `NumberLine::put` writes the digits and the line's end.
use Rattle.std.proofs.Common.{ℕ, ◌≤◌, List, [], ◌∷◌, length, decimal, arith}
use Rattle.lists.proofs.FrontLaws.{Room, first_fits, byte_within, put_byte}
use Rattle.text_lines.specs.Lines.{number_line}
use Rattle.text_lines.proofs.NumberLine.put.Goals as goal

end-room : (number : ℕ) (out : List ℕ) → length (number_line number) ≤ length out → Room (decimal number) (10 ∷ []) out
end-room number out fits = record { fits = fits }

pub put_decimal-at-requires : goal.put_decimal-at-requires
put_decimal-at-requires c = first_fits (end-room _ _ c.requires)

pub bounds-out-at : goal.bounds-out-at
bounds-out-at c = omega (arith, byte_within (end-room _ _ c.requires) c.put_decimal-at.ensures)

pub overflow_add-result : goal.overflow_add-result
overflow_add-result c = omega (arith, byte_within (end-room _ _ c.requires) c.put_decimal-at.ensures)

pub returns : goal.returns
returns c = put_byte (end-room _ _ c.requires) c.put_decimal-at.ensures
