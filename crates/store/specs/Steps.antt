-- What holds inside the store's code: what each function leads to. No contract of an operation names it.
use Rattle.std.specs.Prelude.{ℕ, ◌+◌, ◌≤◌, ◌≡◌, true, false, not, ◌&&◌, List, [], ◌∷◌, ◌++◌, length, leb, Result, Ok, Err}
use Rattle.lists.specs.Lists.{pick, keep}
use Rattle.varint.specs.declared.refusal.Refusal.{Refusal}
use Rattle.varint.specs.declared.refusal.Refusal.TheVariants.{NotShelved}
use Rattle.varint.specs.Refusal.{number_of, number_in}
use Rattle.varint.specs.Varint.{Read, got, refuse, after}
use Rattle.sheet.specs.Page.{Page, sheet_on}
use Rattle.sheet.specs.Sheet.{Sheet}
use Rattle.sheet.specs.Slip.{Slip, read_slip}
use Rattle.store_rules.specs.Shelf.{Nogood, Base, Shelf, base_of, fits_base, subsumes, nogood_of}
use Rattle.store_rules.specs.Store.{slip_items, entered, put_slip}
use Rattle.store_slot.specs.declared.Slot.{Slot}
use Rattle.store_slot.specs.Slot.{shown}
use Rattle.store.specs.declared.Store.{Store}
use Rattle.store.specs.Held.{base_in, slips_in, shelf_of}

-- what a put gives and leaves on the shelf, by what it draws
pub record Shelved : Type 0 where
  pub number : ℕ
  pub shelf : Shelf

unfoldable pub shelved : Shelf → Read Shelf → Shelved
shelved K (got L rest) = record { number = 0; shelf = L }
shelved K (refuse e) = record { number = e; shelf = K }

-- the store shows that; and where its shelf is as it was, the store is, to the last number
pub record PutAs {A : Type 0} (before : Store) (r : Read Shelf) (left : Store) (outcome : Result A Refusal) : Type 0 where
  pub answer : record { number = number_in outcome; shelf = shelf_of left } ≡ shelved (shelf_of before) r
  pub same : shelf_of left ≡ shelf_of before → left ≡ before

-- 22, or what a newcomer leads to
unfoldable pub entered_on : Shelf → Base → Nogood → Read Shelf
entered_on K base new = pick (fits_base K base) (entered K base new) (refuse 22)

-- a store with the slips that a newcomer does not subsume
pub record Rest (before : Store) (slot : Slot) (s : Store) : Type 0 where
  pub few : s.count ≤ 64
  pub counted : length (slips_in s) ≡ s.count
  pub slips : slips_in s ≡ keep (λ k. not (subsumes (shown slot) k)) (slips_in before)

-- a store with another base, and one with a slip more
pub record Based (before : Store) (new : Base) (s : Store) : Type 0 where
  pub base : base_in s ≡ new
  pub count : s.count ≡ before.count
  pub slips : slips_in s ≡ slips_in before

pub record Added (before : Store) (slot : Slot) (s : Store) : Type 0 where
  pub base : base_in s ≡ base_in before
  pub slips : slips_in s ≡ slips_in before ++ (shown slot ∷ [])

-- what a slip is that was read, on a sheet with the limit: to be put, or 20
abbrev pub Slotted : ℕ → Read Slip → Result Slot Refusal → Type 0
Slotted limit (got s rest) r =
    ((leb s.first 3 && leb (length s.goals + length s.reasons) slip_items) ≡ true → (slot : Slot) × (r ≡ Ok slot) × (shown slot ≡ nogood_of limit s))
    × ((leb s.first 3 && leb (length s.goals + length s.reasons) slip_items) ≡ false → r ≡ Err NotShelved)
Slotted limit (refuse e) r = Unit {0}

-- what every shelf answers to a slip on a taken sheet that means S: the refusal, or what the newcomer leads to
pub record Judges (S : Sheet) (slip : List ℕ) (r : Result Slot Refusal) : Type 0 where
  pub refused : (why : Refusal) → r ≡ Err why → (K : Shelf) (P : Page) → sheet_on P ≡ S → after (read_slip slip) (put_slip K P) ≡ refuse (number_of why)
  pub goes : (slot : Slot) → r ≡ Ok slot → (K : Shelf) (P : Page) → sheet_on P ≡ S → after (read_slip slip) (put_slip K P) ≡ entered_on K (base_of P) (shown slot)
