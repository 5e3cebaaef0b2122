-- `sheet_size` counts the bytes of the content and, where there are service minutes, of the 1 before it and of the service minutes. Assumes nothing.
use mathlib.Core.Path.{sym, ap, ◌∙◌}
use native.Mathlib.Omega.{arith}
use lib.ListN.{length}
use Rattle.sheet.specs.Draft.{Draft}
use Rattle.sheet_faults.specs.Drafted.{drafted}
use Rattle.sheet_writer.proofs.DraftLaws.{plain_form, served_size, small_services, content_few, sheet_few}
use Rattle.sheet_writer.proofs.sheet_size.Goals as goal

pub overflow_add-result : goal.overflow_add-result
overflow_add-result c = omega (arith, c.content_size-content.ensures, content_few _ c.requires)

pub sizes-requires : goal.sizes-requires
sizes-requires c = small_services _ c.requires

pub overflow_add-result-then-not-no_service : goal.overflow_add-result-then-not-no_service
overflow_add-result-then-not-no_service c =
    let d : Draft = drafted c.args.draft.now in
    let measured = served_size d c.content_size-content.ensures c.sizes.ensures (sym c.no_service.ensures ∙ c.if-not-no_service.true) in
    omega (arith, measured, sheet_few _ c.requires)

pub returns-then-not-no_service : goal.returns-then-not-no_service
returns-then-not-no_service c =
    let d : Draft = drafted c.args.draft.now in
    served_size d c.content_size-content.ensures c.sizes.ensures (sym c.no_service.ensures ∙ c.if-not-no_service.true)

pub returns : goal.returns
returns c =
    let d : Draft = drafted c.args.draft.now in
    c.content_size-content.ensures ∙ ap length (sym (plain_form d (sym c.no_service.ensures ∙ c.if-not-no_service.false)))
