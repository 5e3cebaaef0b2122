-- What the invariant does not show of `forced_nodes` by itself.
use mathlib.Core.Path.{sym, ◌∙◌}
use native.Mathlib.Omega.{arith}
use Rattle.walks.specs.Graph.{arc_item}
use Rattle.sheet_required.proofs.RequiredLaws.{no_ends, end_more, end_pass, all_ends, mark_told}
use Rattle.sheet.specs.Sheet.{sheet_of}
use Rattle.sheet_required.proofs.forced_nodes.Goals as goal
use Rattle.sheet_required.proofs.forced_nodes.Goals.{then-is_mandatory, else-is_mandatory}

pub loop-j-init : goal.loop-j-init
loop-j-init g c = no_ends _ _ _

pub loop-j-preserved : goal.loop-j-preserved
unfolding arc_item
loop-j-preserved g c =
    let told = mark_told (sheet_of c.args.header (g.L.ArcList.arcs c.args.arcs.now) c.args.marks.now) _ c.index-marks-header.is (omega arith) in
    elim c.if-is_mandatory.branch [
      | then-is_mandatory k ↦ rw (k.forced-is, k.mark_ends.ensures, k.arc.ensures)
          (end_more _ _ _ c.requires c.loop-j.invariant c.loop-j-test.true (told ∙ sym c.is_mandatory.ensures ∙ k.if-is_mandatory.true))
      | else-is_mandatory k ↦ rw k.forced-is
          (end_pass _ _ _ c.requires c.loop-j.invariant c.loop-j-test.true (told ∙ sym c.is_mandatory.ensures ∙ k.if-is_mandatory.false))
    ]

pub returns : goal.returns
returns g c =
    rw (c.mark_node-2.ensures, c.mark_node.ensures) (all_ends _ _ _ c.requires c.loop-j.invariant c.loop-j-test.false)
