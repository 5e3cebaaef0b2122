-- `required_items` lists the items that pass `is_required`. The invariant (`Listing`): those below i stand in front. Assumes nothing.
use lib.ListN.{length}
use Rattle.sheet.specs.Sheet.{is_required, sheet_of}
use Rattle.sheet_required.proofs.RequiredLaws.{Listing}
use Rattle.sheet_required.proofs.required_items.Given as goal

abbrev pub invariant-loop-i : goal.invariant-loop-i
invariant-loop-i g l = Listing (is_required (sheet_of l.header (g.L.ArcList.arcs l.arcs) l.marks)) (length l.marks) l.initial.list l.list l.count l.i
