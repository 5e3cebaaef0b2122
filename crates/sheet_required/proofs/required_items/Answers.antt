-- What the invariants do not show of `required_items` by themselves.
use mathlib.Core.Path.{◌≡◌, sym, ◌∙◌}
use native.Mathlib.Omega.{arith}
use lib.ListN.{length}
use Rattle.walks.specs.Flat.{graph_of}
use Rattle.walks.specs.Graph.{item_count}
use Rattle.sheet.specs.Sheet.{required, all_items, sheet_of}
use Rattle.sheet_required.proofs.RequiredLaws.{listing, list_more, list_pass, listed, none_required, required_by, mark_told}
use Rattle.sheet_required.proofs.required_items.Goals as goal
use Rattle.sheet_required.proofs.required_items.Goals.{then-is_required, else-is_required}

pub returns-then-not-some_mandatory : goal.returns-then-not-some_mandatory
returns-then-not-some_mandatory g c =
    none_required (sheet_of c.args.header (g.L.ArcList.arcs c.args.arcs.now) c.args.marks.now) _ (sym c.some_mandatory.ensures ∙ c.if-not-some_mandatory.true)

pub loop-i-init : goal.loop-i-init
loop-i-init g c = listing _ _ _

pub is_required-requires : goal.is_required-requires
is_required-requires g c = omega (arith, c.forced_nodes-forced.ensures.size, c.requires.1)

pub note_item-count-requires : goal.note_item-count-requires
note_item-count-requires g c = omega (arith, c.loop-i.invariant.small, c.loop-i-test.true, c.requires.0.1, c.requires.1, c.requires.2)

pub loop-i-preserved : goal.loop-i-preserved
loop-i-preserved g c =
    let w = c.loop-i.invariant in
    let t = c.loop-i-test.true in
    let S = sheet_of c.args.header (g.L.ArcList.arcs c.args.arcs.now) c.args.marks.now in
    let e = c.is_required.ensures ∙ required_by S c.forced_nodes-forced.ensures c.requires.1 c.loop-i.i (sym (mark_told S _ c.index-marks-i.is t)) in
    elim c.if-is_required.branch [
      | then-is_required k ↦ rw (k.list-is, k.count-is, k.note_item-count.ensures.0, k.note_item-count.ensures.1) (list_more w t (sym e ∙ k.if-is_required.true))
      | else-is_required k ↦ rw (k.list-is, k.count-is) (list_pass w t (sym e ∙ k.if-is_required.false))
    ]

pub returns : goal.returns
unfolding required all_items
returns g c =
    let e : item_count (graph_of c.args.header.nodes (g.L.ArcList.arcs c.args.arcs.now)) ≡ length c.args.marks.now = omega (arith, c.requires.0) in
    rw e (listed c.loop-i.invariant c.loop-i-test.false)
