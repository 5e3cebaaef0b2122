-- `Store::enter` meets its contract, test by test. Assumes nothing.
use mathlib.Core.Path.{sym, ◌∙◌}
use native.Mathlib.Omega.{arith}
use Rattle.varint.specs.declared.refusal.Refusal.TheVariants.{OtherMap, Full}
use Rattle.store.proofs.EarliestLaws.{some_told}
use Rattle.store.proofs.PuttingLaws.{refuses, keeps, other_base, is_subsumed, no_room, is_placed}
use Rattle.store.proofs.Store.enter.Goals as goal

pub returns-then-not-fits_base : goal.returns-then-not-fits_base
returns-then-not-fits_base c = refuses _ _ OtherMap (other_base _ _ _ (sym c.fits_base.ensures ∙ c.if-not-fits_base.true))

pub returns-then-some_subsumes : goal.returns-then-some_subsumes
returns-then-some_subsumes c = keeps _ _ _ (is_subsumed _ _ _ (sym c.fits_base.ensures ∙ c.if-not-fits_base.false) (some_told _ _ c.some_subsumes.ensures ∙ c.if-some_subsumes.true))

pub returns-then-self-ge-SLOTS : goal.returns-then-self-ge-SLOTS
returns-then-self-ge-SLOTS c = refuses _ _ Full (no_room _ _ _ (sym c.fits_base.ensures ∙ c.if-not-fits_base.false) (some_told _ _ c.some_subsumes.ensures ∙ c.if-some_subsumes.false) c.remove_subsumed.ensures (omega arith))

pub push-requires : goal.push-requires
push-requires c = omega (arith, c.set_base.ensures.count)

pub returns : goal.returns
returns c = is_placed _ _ _ (sym c.fits_base.ensures ∙ c.if-not-fits_base.false) (some_told _ _ c.some_subsumes.ensures ∙ c.if-some_subsumes.false) c.remove_subsumed.ensures (omega arith) c.set_base.ensures c.push.ensures _
