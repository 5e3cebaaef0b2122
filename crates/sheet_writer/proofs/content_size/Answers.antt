-- `content_size` counts the bytes of the five numbers, of the arcs' numbers and of the marks, one each. Assumes nothing.
use mathlib.Core.Path.{◌≡◌, ap, ◌∙◌}
use mathlib.Core.List.{List}
use native.Mathlib.Omega.{arith}
use Prim.Native.Nat.{ℕ}
use lib.ListN.{length}
use Rattle.sheet.specs.Draft.{header_numbers}
use Rattle.varint.specs.Answer.{small}
use Rattle.varint.specs.Varint.{write_numbers}
use Rattle.sheet_writer.proofs.DraftLaws.{small_header, small_arcs, content_length, content_few}
use Rattle.sheet_writer.proofs.content_size.Goals as goal

-- the measured numbers in front
header-size : (p : goal.After-sizes-2) → p.sizes.result ≡ length (write_numbers (header_numbers p.args.draft.now.header))
header-size p = p.sizes.ensures ∙ ap (λ (xs : List ℕ). length (write_numbers xs)) p.header_numbers-numbers.ensures

pub header_numbers-numbers-requires : goal.header_numbers-numbers-requires
header_numbers-numbers-requires c = small_header _ c.requires

pub sizes-requires : goal.sizes-requires
sizes-requires c = ap small c.header_numbers-numbers.ensures ∙ small_header _ c.requires

pub sizes-requires-2 : goal.sizes-requires-2
sizes-requires-2 c = small_arcs _ c.requires

pub overflow_add-result : goal.overflow_add-result
overflow_add-result c =
    let z = c.requires in
    omega (arith, header-size c, c.sizes-2.ensures, content_length _ z, content_few _ z)

pub overflow_add-result-2 : goal.overflow_add-result-2
overflow_add-result-2 c =
    let z = c.requires in
    omega (arith, header-size c, c.sizes-2.ensures, content_length _ z, content_few _ z)

pub returns : goal.returns
returns c =
    let z = c.requires in
    omega (arith, header-size c, c.sizes-2.ensures, content_length _ z)
