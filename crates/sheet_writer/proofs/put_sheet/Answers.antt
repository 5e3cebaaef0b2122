-- `put_sheet` writes the content alone where no node has service minutes, else the form with them. Assumes nothing.
use mathlib.Core.Path.{sym, ◌∙◌}
use Rattle.sheet.specs.Draft.{Draft}
use Rattle.sheet_faults.specs.Drafted.{drafted}
use Rattle.sheet_writer.proofs.DraftLaws.{plain_form, served_form}
use Rattle.sheet_writer.proofs.put_sheet.Goals as goal

pub put_content-requires : goal.put_content-requires
put_content-requires c =
    let d : Draft = drafted c.args.draft.now in
    let plain = plain_form d (sym c.no_service.ensures ∙ c.if-no_service.true) in
    record { draft_faultless = c.requires.draft_faultless; content_fits = rw plain at c.requires.page_fits }

pub returns-then-no_service : goal.returns-then-no_service
returns-then-no_service c =
    let d : Draft = drafted c.args.draft.now in
    rw (plain_form d (sym c.no_service.ensures ∙ c.if-no_service.true)) c.put_content.ensures

pub put_served-requires : goal.put_served-requires
put_served-requires c =
    let d : Draft = drafted c.args.draft.now in
    let served = served_form d (sym c.no_service.ensures ∙ c.if-no_service.false) in
    record { draft_faultless = c.requires.draft_faultless; numbers_fit = rw served at c.requires.page_fits }

pub returns : goal.returns
returns c =
    let d : Draft = drafted c.args.draft.now in
    rw (served_form d (sym c.no_service.ensures ∙ c.if-no_service.false)) c.put_served.ensures
