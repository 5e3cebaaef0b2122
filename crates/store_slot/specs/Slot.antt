-- What a slot shows, whatever numbers it holds: no more goals than it has items, no more reasons than stand behind them, and a first number that is one
-- of a refused round's or 0.
use Rattle.std.specs.Prelude.{ℕ, List, take, drop, leb}
use Rattle.lists.specs.Lists.{pick}
use Rattle.sheet.specs.Lent.{zeros}
use Rattle.store_rules.specs.Shelf.{Nogood}
use Rattle.store_slot.specs.declared.Slot.{Slot}

unfoldable pub goals_in : Slot → List ℕ
goals_in k = take k.goals k.items

unfoldable pub reasons_in : Slot → List ℕ
reasons_in k = take k.reasons (drop k.goals k.items)

unfoldable pub shown : Slot → Nogood
shown k = record { first = pick (leb k.first 3) k.first 0; limit = k.limit; goals = goals_in k; reasons = reasons_in k }

-- the slot that holds nothing
unfoldable pub empty_slot : Slot
empty_slot = record { first = 0; limit = 0; goals = 0; reasons = 0; items = zeros 24 }
