-- `greedy_turn::link_closed` meets its contract: an arc that was put behind the others is taken off its chain, and else the arcs are packed anew.
-- Assumes nothing.
use Prim.Native.Nat.{◌+◌, ◌-◌, ◌<◌}
use mathlib.Core.Path.{◌≡◌, ap}
use native.Mathlib.Omega.{arith}
use lib.ListN.{take}
use lib.Seq.{get_or-take, length-take-le}
use Rattle.walks.specs.declared.arc.Arc.{Arc}
use Rattle.walks.specs.Graph.{no_arc}
use Rattle.rows.specs.Net.{arc_count}
use Rattle.row_links.proofs.LinkLaws.{linked_all}
use Rattle.greedy_turn.proofs.link_closed.Goals as goal

pub take_off-requires : goal.take_off-requires
take_off-requires c =
    let k = c.args.before in
    let ps = c.args.links.now in
    let S = c.requires.shaped.0 in
    let e : ps.count ≡ k + 1 = c.if-links-before.true in
    let q : ps.count - 1 ≡ k = omega (arith, e) in
    let h : k < arc_count (take ps.count ps.arcs) = omega (arith, e, length-take-le ps.count ps.arcs (omega (arith, S.room, S.long))) in
    let t = ap (λ (x : Arc). x.tail) (get_or-take ps.count ps.arcs k no_arc (omega (arith, e))) in
    (omega (arith, e), omega (arith, S.room), rw q (omega (arith, (S.joins k h).0, t)))

pub returns : goal.returns
returns c = linked_all c.requires.few_arcs c.requires.shaped.0.long c.pack.ensures
