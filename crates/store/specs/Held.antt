-- What a store shows, whatever numbers it holds: no more slips than there are slots, no more arcs than there are legs for, and no more service minutes than
-- there is room for.
use Rattle.std.specs.Prelude.{ℕ, ◌*◌, List, map, take, replicate, Option, Some, None, Result, Ok, Err}
use Rattle.varint.specs.declared.refusal.Refusal.{Refusal}
use Rattle.walks.specs.declared.arc.Arc.{Arc}
use Rattle.walks.specs.Flat.{arcs_of, graph_of}
use Rattle.sheet.specs.Lent.{zeros}
use Rattle.sheet.specs.declared.Header.{Header}
use Rattle.store_rules.specs.Shelf.{Nogood, Base, Shelf, Found, missing, found}
use Rattle.store_slot.specs.declared.Slot.{Slot}
use Rattle.store_slot.specs.Slot.{shown, empty_slot}
use Rattle.store.specs.declared.Store.{Store}

-- the base that a sheet's numbers make, and the one that a store's do
abbrev pub base_from : Header → List Arc → List ℕ → Base
base_from h arcs services = record { graph = graph_of h.nodes arcs; services = services; source = h.source; target = h.target }

unfoldable pub base_in : Store → Base
base_in s =
    record { graph = graph_of s.nodes (arcs_of (take (3 * s.arcs) s.legs)); services = take s.nodes s.services; source = s.source; target = s.target }

-- the slots that count, and the slips that they show
unfoldable pub held_in : Store → List Slot
held_in s = take s.count s.slots

unfoldable pub slips_in : Store → List Nogood
slips_in s = map shown (held_in s)

unfoldable pub shelf_of : Store → Shelf
shelf_of s = record { base = base_in s; slips = slips_in s }

-- the store that holds nothing
unfoldable pub empty_slots : ℕ → List Slot
empty_slots k = replicate k empty_slot

unfoldable pub empty_store : Store
empty_store = record { count = 0; nodes = 0; arcs = 0; source = 0; target = 0; legs = zeros 1536; services = zeros 64; slots = empty_slots 64 }

-- the slip of a slot that was found
abbrev pub found_slot : Option Slot → Found
found_slot (Some k) = found (shown k)
found_slot None = missing

-- what ask found
abbrev pub found_in : Result (Option Slot) Refusal → Found
found_in (Ok o) = found_slot o
found_in (Err why) = missing
