-- What the invariant does not show of `chain` by itself: the numbers in front are cleared, and the arc is put before those of its tail.
use mathlib.Core.Path.{◌≡◌, sym, ◌∙◌}
use native.Mathlib.Omega.{arith}
use lib.ListN.{length, take, drop, length-drop}
use lib.Seq.{length-take-le, drop_at}
use Rattle.rows.specs.Net.{tail_in}
use Rattle.row_spread.proofs.ChainLaws.{chain_begun, chain_more, chain_behind}
use Rattle.row_spread.proofs.chain.Goals as goal

pub slice_bounds-fill-end-2 : goal.slice_bounds-fill-end-2
slice_bounds-fill-end-2 c = sym (length-take-le _ c.args.chains.now (omega (arith, c.requires.2)))

pub loop-arc-init : goal.loop-arc-init
loop-arc-init c =
    let d = c.args.chains.now in
    let size : length (take 64 d) ≡ 64 = length-take-le 64 d (omega (arith, c.requires.2)) in
    let zs = c.fill.new.self in (
      chain_begun (tail_in c.args.arcs.now) zs (drop 64 d) (rw size at (c.fill.ensures.after (λ _ e. e))) (length-drop 64 d ∙ omega (arith, c.requires.2)),
      drop_at zs (drop 64 d) 64 (c.fill.ensures.len ∙ size),
    )

pub loop-arc-preserved : goal.loop-arc-preserved
loop-arc-preserved c =
    let l = c.loop-arc in
    let tail = (c.requires.0 l.arc c.loop-arc-test.true).0 in
    rw c.chain_arc.ensures (
      chain_more (tail_in c.args.arcs.now) tail (omega (arith, c.requires.1)) l.invariant.0,
      chain_behind (tail_in c.args.arcs.now) l.arc l.chains c.args.chains.now tail l.invariant.1,
    )
