-- `Store::slips` meets its contract: the cut count takes the same slots. Assumes nothing.
use borrow.Author.Rules.{rules}
use Rattle.store.specs.Held.{held_in}
use Rattle.store.proofs.EarliestLaws.{length_mapped}
use Rattle.store.proofs.BaseLaws.{cut}
use Rattle.store.proofs.Store.slips.Goals as goal

pub returns : goal.returns
unfolding held_in
returns c = cut c.args.self.now.slots c.args.self.now.count 64 _ (search (rules, length_mapped)) (search rules)
