-- What `few` asks: as many arcs as the legs' numbers make, and a mark for each item.
use mathlib.Core.Path.{refl, sym, ap, ◌∙◌}
use mathlib.Core.List.{[]}
use lib.ListN.{length}
use Rattle.walks.proofs.FlatLaws.{arcs_many}
use Rattle.sheet.specs.Draft.{draft_sheet}
use Rattle.sheet.specs.Writer.{fault, required_fault}
use Rattle.sheet_required.proofs.RequiredLaws.{none_required}
use Rattle.sheet_faults.specs.Drafted.{drafted}
use Rattle.sheet_faults.proofs.Draft.required_fault.Goals as goal

pub few-requires : goal.few-requires
few-requires c =
    let d = c.args.self.now in
    ((arcs_many d.arcs.now d.header.arcs c.requires.lists_sized.0, ap length c.marks_of-marks.ensures ∙ c.requires.lists_sized.1), c.requires.bounded.0, c.requires.bounded.1)

pub returns-then-not-some_mandatory : goal.returns-then-not-some_mandatory
unfolding required_fault fault
returns-then-not-some_mandatory c =
    rw (← (none_required (draft_sheet (drafted c.args.self.now)) [] (sym c.some_mandatory.ensures ∙ c.if-not-some_mandatory.true)).counted) refl
