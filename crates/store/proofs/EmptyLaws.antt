-- A store whose count is 0 shows a shelf without slips, whatever else it holds: so does the store that `empty` makes, and zeroed memory; and such a shelf is
-- reached. Assumes nothing.
use mathlib.Core.Path.{◌≡◌, refl}
use mathlib.Core.List.{[]}
use Rattle.store_rules.specs.Store.{Reached, made}
use Rattle.store.specs.declared.Store.{Store}
use Rattle.store.specs.Held.{held_in, slips_in, shelf_of, empty_store}

pub empty_shows : (s : Store) → s.count ≡ 0 → (shelf_of s).slips ≡ []
unfolding shelf_of slips_in held_in
empty_shows s e = rw e

pub empty_reached : (s : Store) → s.count ≡ 0 → Reached (shelf_of s)
empty_reached s e = made (empty_shows s e)

-- the store that is made empty
pub made_reached : Reached (shelf_of empty_store)
unfolding empty_store
made_reached = empty_reached empty_store refl
