-- `Slot::goals` meets its contract: the cut count takes the same goals. Assumes nothing.
use borrow.Author.Rules.{rules}
use Rattle.store_slot.proofs.SlotLaws.{goals_cut}
use Rattle.store_slot.proofs.Slot.goals.Goals as goal

pub returns : goal.returns
returns c = goals_cut c.args.self.now (search rules) c.goal_count.ensures
