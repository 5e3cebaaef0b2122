-- What the invariant does not show of `arcs_fault` by itself.
use mathlib.Core.Path.{◌∙◌}
use Rattle.std.proofs.Common.{rules}
use Rattle.sheet_faults.proofs.FaultLaws.{arc_wrong, arc_fine, no_arc_left}
use Rattle.sheet_faults.proofs.arcs_fault.Goals as goal

pub loop-arc-preserved : goal.loop-arc-preserved
loop-arc-preserved c =
    let s = c.in-Some.ensures.steps in
    let i = c.loop-arc.invariant in
    (s.0 ∙ i.0, arc_fine _ _ _ _ _ i.1 s.1.0 (s.1.1 ∙ i.0) c.in_ok-arc_fault.ensures)

pub returns-in_err-arc_fault : goal.returns-in_err-arc_fault
returns-in_err-arc_fault c =
    let s = c.in-Some.ensures.steps in
    let i = c.loop-arc.invariant in
    let e = arc_wrong _ _ _ _ _ i.1 s.1.0 (s.1.1 ∙ i.0) c.in_err-arc_fault.field-0.0 c.in_err-arc_fault.ensures in
    search rules

pub returns : goal.returns
returns c = let i = c.loop-arc.invariant in no_arc_left _ _ _ i.1 (rw i.0 at c.in-None.ensures.steps.1.0)
