-- What the invariant does not show of `same_legs` by itself.
use mathlib.Core.Path.{refl}
use mathlib.Core.Bool.{false≢true}
use Rattle.store.proofs.LegLaws.{arc_same, arc_differs, next_same, all_same, same_at, other_length}
use Rattle.store.proofs.same_legs.Goals as goal

pub loop-i-init : goal.loop-i-init
loop-i-init c = (c.if-legs-arcs.false, refl)

pub returns-then-legs-arcs : goal.returns-then-legs-arcs
returns-then-legs-arcs c = (λ t. absurd (false≢true t), λ e. absurd (other_length c.args.arcs.now c.args.legs.now c.if-legs-arcs.true e))

pub returns-then-ne : goal.returns-then-ne
returns-then-ne c =
    let v = c.loop-i.invariant in (
      λ t. absurd (false≢true t),
      λ e. absurd (arc_differs c.ne.ensures c.if-ne.true (same_at c.args.arcs.now c.args.legs.now c.loop-i.i v.0 c.loop-i-test.true e)),
    )

pub loop-i-preserved : goal.loop-i-preserved
loop-i-preserved c =
    let v = c.loop-i.invariant in
    (v.0, next_same c.args.arcs.now c.args.legs.now c.loop-i.i v.0 v.1 c.loop-i-test.true (arc_same c.ne.ensures c.if-ne.false))

pub returns : goal.returns
returns c =
    let v = c.loop-i.invariant in
    (λ _. all_same c.args.arcs.now c.args.legs.now c.loop-i.i v.0 v.1 c.loop-i-test.false, λ _. refl)
