-- `check_claim::well_formed` meets its contract: each of the three tests is asked where the ones before it hold. Assumes nothing.
use Prim.Native.Nat.{◌+◌}
use mathlib.Core.Path.{◌≡◌, sym, ◌∙◌}
use mathlib.Core.Bool.{◌&&◌}
use lib.Dec.{ltb}
use Rattle.lists.specs.Lists.{every, ascends}
use Rattle.check_claim.proofs.FormLaws.{formed_chain}
use Rattle.check_claim.proofs.GoalLaws.{both, first_fails}
use Rattle.check_claim.proofs.NumberLaws.{numbers_counted}
use Rattle.check_claim.proofs.well_formed.Goals as goal
use Rattle.check_claim.proofs.well_formed.Goals.{Joined-rising_below, then-rising_below, else-rising_below}

-- both lists rise and are known
rise : (g : _) (p : Joined-rising_below g) → let gs = g.I.Item.numbers p.args.goals.now in let rs = g.I.Item.numbers p.args.reasons.now in
    let n = p.args.header.nodes + p.args.header.arcs in
    p.if-rising_below.value ≡ ((every (λ i. ltb i n) gs && ascends gs) && (every (λ i. ltb i n) rs && ascends rs))
rise g p =
    elim p.if-rising_below.branch [
      | then-rising_below w ↦ both (sym p.rising_below.ensures ∙ w.if-rising_below.true) (w.value-is ∙ w.rising_below-then-rising_below.ensures)
      | else-rising_below w ↦ first_fails _ (sym p.rising_below.ensures ∙ w.if-rising_below.false) (w.value-is ∙ w.if-rising_below.false)
    ]

pub returns-then-rising_below-2 : goal.returns-then-rising_below-2
returns-then-rising_below-2 g c =
    let e = rise g (goal.at.returns-then-rising_below-2 g c).Joined-rising_below in
    let n = numbers_counted g.I.Item.number _ (g.met.I.Item.one_each c.args.goals.now) c.args.first c.count_fits.ensures in
    λ S k. formed_chain S _ c.args.first (g.I.Item.numbers c.args.goals.now) (g.I.Item.numbers c.args.reasons.now) k (both (sym e ∙ c.if-rising_below-2.true) n)

pub returns-else-rising_below-2 : goal.returns-else-rising_below-2
returns-else-rising_below-2 g c =
    let e = rise g (goal.at.returns-else-rising_below-2 g c).Joined-rising_below in
    let f = first_fails _ (sym e ∙ c.if-rising_below-2.false) c.if-rising_below-2.false in
    λ S k. formed_chain S _ c.args.first (g.I.Item.numbers c.args.goals.now) (g.I.Item.numbers c.args.reasons.now) k f
