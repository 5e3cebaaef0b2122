-- `Slot::subsumes` meets its contract: the limits are told first, then the goals, then the reasons. Assumes nothing.
use mathlib.Core.Path.{sym, ap₂, ◌∙◌}
use borrow.Author.Tests.{lt-leb, le-leb}
use Rattle.lists.specs.Lists.{subset}
use Rattle.lists.proofs.StdLaws.{subset_all}
use Rattle.store_rules.specs.Shelf.{subsumes}
use Rattle.store_slot.specs.Slot.{goals_in, reasons_in, shown}
use Rattle.store_slot.proofs.SlotLaws.{last_fails, first_fails, second_tells}
use Rattle.store_slot.proofs.Slot.subsumes.Goals as goal

pub returns-then-self-other : goal.returns-then-self-other
unfolding subsumes shown
returns-then-self-other c = last_fails (subset (goals_in c.args.self.now) (goals_in c.args.other.now)) (subset (reasons_in c.args.self.now) (reasons_in c.args.other.now)) (lt-leb _ _ c.if-self-other.true)

pub returns-then-all_listed : goal.returns-then-all_listed
unfolding subsumes shown
returns-then-all_listed c =
    c.all_listed-then-all_listed.ensures ∙ subset_all _ _ ∙ ap₂ subset c.reasons.ensures.shown c.reasons-then-all_listed.ensures.shown
    ∙ second_tells (sym (c.all_listed.ensures ∙ subset_all _ _ ∙ ap₂ subset c.goals.ensures c.goals-2.ensures) ∙ c.if-all_listed.true) (le-leb _ _ c.if-self-other.false)

pub returns-else-all_listed : goal.returns-else-all_listed
unfolding subsumes shown
returns-else-all_listed c =
    c.if-all_listed.false ∙ first_fails _ (sym (c.all_listed.ensures ∙ subset_all _ _ ∙ ap₂ subset c.goals.ensures c.goals-2.ensures) ∙ c.if-all_listed.false)
