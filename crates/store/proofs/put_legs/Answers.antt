-- What the invariant does not show of `put_legs` by itself.
use mathlib.Core.Path.{refl}
use Rattle.walks.specs.Flat.{flat}
use Rattle.store.proofs.LegLaws.{leg_put, all_put}
use Rattle.store.proofs.put_legs.Goals as goal

pub loop-i-init : goal.loop-i-init
unfolding flat
loop-i-init c = refl

pub loop-i-preserved : goal.loop-i-preserved
loop-i-preserved c =
    leg_put c.args.arcs.now c.args.legs.now c.loop-i.legs c.loop-i.i c.loop-i.invariant c.loop-i-test.true c.requires _ refl

pub returns : goal.returns
returns c = all_put c.args.arcs.now c.args.legs.now c.loop-i.legs c.loop-i.i c.loop-i.invariant c.loop-i-test.false
