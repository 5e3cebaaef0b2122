-- `Slot::applies` meets its contract: the limits are told first, then the reasons, then the goals. Assumes nothing.
use mathlib.Core.Path.{sym, ap, ◌∙◌}
use lib.ListN.{get_or}
use lib.Dec.{eqb}
use borrow.Author.Tests.{lt-leb, le-leb}
use Rattle.lists.specs.Lists.{every}
use Rattle.store_slot.specs.Slot.{goals_in, reasons_in, shown}
use Rattle.store_slot.specs.Lists.{applies_by}
use Rattle.store_slot.proofs.SlotLaws.{last_fails, first_fails, second_tells}
use Rattle.store_slot.proofs.Slot.applies.Goals as goal

pub returns-then-self-limit : goal.returns-then-self-limit
unfolding applies_by shown
returns-then-self-limit c =
    let m = c.args.marks.now in
    last_fails (every (λ x. eqb (get_or m x 0) 2) (reasons_in c.args.self.now)) (every (λ x. eqb (get_or m x 0) 1) (goals_in c.args.self.now)) (lt-leb _ _ c.if-self-limit.true)

pub returns-then-all_marked : goal.returns-then-all_marked
unfolding applies_by shown
returns-then-all_marked c =
    let m = c.args.marks.now in
    c.all_marked-then-all_marked.ensures ∙ ap (every (λ x. eqb (get_or m x 0) 1)) c.goals.ensures
    ∙ second_tells (sym (c.all_marked.ensures ∙ ap (every (λ x. eqb (get_or m x 0) 2)) c.reasons.ensures.shown) ∙ c.if-all_marked.true) (le-leb _ _ c.if-self-limit.false)

pub returns-else-all_marked : goal.returns-else-all_marked
unfolding applies_by shown
returns-else-all_marked c =
    let m = c.args.marks.now in
    c.if-all_marked.false
    ∙ first_fails _ (sym (c.all_marked.ensures ∙ ap (every (λ x. eqb (get_or m x 0) 2)) c.reasons.ensures.shown) ∙ c.if-all_marked.false)
