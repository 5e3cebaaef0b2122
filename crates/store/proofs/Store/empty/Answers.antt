-- `Store::empty` meets its contract: each number and each entry of the arrays is 0. Assumes nothing.
use Rattle.sheet.specs.Lent.{zeros}
use Rattle.store.specs.Held.{empty_slots, empty_store}
use Rattle.store.proofs.Store.empty.Goals as goal

pub returns : goal.returns
unfolding zeros empty_slots empty_store
returns c = rw c.empty.ensures
