-- What the invariant does not show of `set_starts` by itself.
use mathlib.Core.Path.{◌≡◌, refl, ◌∙◌}
use Prim.Native.Nat.{◌+◌, ◌<◌}
use native.Mathlib.Omega.{arith}
use lib.ListN.{length, length-set}
use Rattle.walks.specs.Flat.{graph_of}
use Rattle.lengths.proofs.PartLaws.{start_begun, start_more}
use Rattle.lengths.proofs.set_starts.Goals as goal

pub loop-i-init : goal.loop-i-init
loop-i-init c = (refl, start_begun (graph_of c.args.nodes c.args.arcs.now) c.args.from c.args.goals.now c.args.starts.now c.requires.arcs_join_nodes.2 (omega (arith, c.requires.arcs_join_nodes.1)))

pub exit-requires : goal.exit-requires
exit-requires c = (c.requires.arcs_join_nodes.0, c.requires.goals_are_items _ c.loop-i-test.true)

pub loop-i-preserved : goal.loop-i-preserved
loop-i-preserved c =
    let l = c.loop-i in
    let q : length l.starts ≡ length c.args.starts.now = l.invariant.0 ∙ length-set c.args.starts.now 0 c.args.from in
    let room : l.i + 1 < length l.starts = omega (arith, q, c.requires.arcs_join_nodes.1, c.loop-i-test.true) in
    (length-set l.starts (l.i + 1) c.exit.result ∙ l.invariant.0, start_more c.exit.result room c.exit.ensures.0 c.exit.ensures.1 l.invariant.1)
