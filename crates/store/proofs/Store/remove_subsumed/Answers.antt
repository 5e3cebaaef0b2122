-- What the invariant does not show of `Store::remove_subsumed` by itself.
use mathlib.Core.Path.{◌≡◌, sym, ap, ◌∙◌}
use mathlib.Core.Bool.{not}
use native.Mathlib.Omega.{arith}
use lib.ListN.{length}
use borrow.Author.Rules.{rules}
use Rattle.store.specs.Held.{held_in, slips_in}
use Rattle.lists.proofs.MovedLaws.{begun, more_kept, more_dropped}
use Rattle.store.proofs.EarliestLaws.{length_mapped}
use Rattle.store.proofs.HeldLaws.{counted, shown_count, rest_held}
use Rattle.store.proofs.Store.remove_subsumed.Goals as goal
use Rattle.store.proofs.Store.remove_subsumed.Goals.{then-not-subsumes, else-not-subsumes}

pub loop-i-init : goal.loop-i-init
loop-i-init c = (counted c.args.self.now (search (rules, length_mapped)) c.slips-count.ensures, omega arith, begun _ _)

pub loop-i-preserved : goal.loop-i-preserved
loop-i-preserved c =
    let v = c.loop-i.invariant in
    let l = c.loop-i-test.true in
    let h = v.0.slots in
    let said = c.subsumes.ensures in
    elim c.if-not-subsumes.branch [
      | then-not-subsumes w ↦ rw (w.self-is, w.left-is) (v.0, omega arith, more_kept _ v.2 (omega (arith, v.0.count, h)) (ap not (sym said ∙ w.if-not-subsumes.true)))
      | else-not-subsumes w ↦ rw (w.self-is, w.left-is) (v.0, omega arith, more_dropped _ v.2 (omega (arith, v.0.count, h)) (ap not (sym said ∙ w.if-not-subsumes.false)))
    ]

pub returns : goal.returns
unfolding slips_in held_in
returns c =
    let v = c.loop-i.invariant in
    let e : c.loop-i.i ≡ length c.slips-count.result.now = omega (arith, v.1) in
    let m = rw e at v.2 in
    record { few = omega (arith, v.0.count, v.2.below); counted = shown_count _ _ (omega (arith, v.0.count, v.0.slots, v.2.below, v.2.size)); slips = rest_held _ _ _ v.0 m }
