-- `Slot::reasons` meets its contract: the cut count takes the same reasons. Assumes nothing.
use borrow.Author.Rules.{rules}
use Rattle.store_slot.proofs.SlotLaws.{reasons_cut, few_shown}
use Rattle.store_slot.proofs.Slot.reasons.Goals as goal

pub returns-clause-few : goal.returns-clause-few
returns-clause-few c = few_shown c.args.self.now (search rules)

pub returns-clause-shown : goal.returns-clause-shown
returns-clause-shown c = reasons_cut c.args.self.now (search rules) c.goal_count.ensures (search rules)
