-- Putting a slip on a shelf and asking a shelf (document 02, requests 2.6 and 2.7): the answers on every input, what a call leaves, and which shelves are reached.
use Rattle.std.specs.Prelude.{ℕ, ◌+◌, ◌≡◌, Bool, not, ◌&&◌, List, [], ◌∷◌, ◌++◌, length, eqb, ltb, leb}
use Rattle.lists.specs.Lists.{pick, keep, any}
use Rattle.varint.specs.Varint.{Read, got, refuse, after}
use Rattle.sheet.specs.Page.{Page, sheet_on}
use Rattle.sheet.specs.Sheet.{Sheet}
use Rattle.sheet.specs.Slip.{Slip, read_slip}
use Rattle.sheet.specs.Lent.{work_numbers, zeroed, work_after}
use Rattle.sheet.specs.Reader.{page}
use Rattle.check_rules.specs.Check.{well_formed, holds}
use Rattle.store_rules.specs.Shelf.{Nogood, Base, Shelf, base_of, fits_base, subsumes, applies, nogood_of, Found, missing, earliest}

-- how many slips a shelf holds, and how many goals and reasons together a slip on it has, at most
abbrev pub shelf_slips : ℕ
shelf_slips = 64

abbrev pub slip_items : ℕ
slip_items = 24

-- what 20 asks: check says yes, the first number is not 4, and there are at most 24 goals and reasons together
unfoldable pub shelvable : Sheet → Slip → Bool
shelvable S s = holds S s && (not (eqb s.first 4) && leb (length s.goals + length s.reasons) slip_items)

-- the newcomer behind the slips that remain (23: there are 64)
unfoldable pub placed : Base → List Nogood → Nogood → Read Shelf
placed base rest new = pick (ltb (length rest) shelf_slips) (got (record { base = base; slips = rest ++ (new ∷ []) }) []) (refuse 23)

-- a newcomer that is subsumed changes nothing; otherwise the slips that it subsumes are removed
unfoldable pub entered : Shelf → Base → Nogood → Read Shelf
entered K base new =
    pick (any (λ k. subsumes k new) K.slips) (got K []) (placed base (keep (λ k. not (subsumes new k)) K.slips) new)

-- 20, then 22: another map, other service minutes, another source or target
unfoldable pub put_in : Shelf → Page → Slip → Read Shelf
put_in K P s =
    pick (shelvable (sheet_on P) s) (pick (fits_base K (base_of P)) (entered K (base_of P) (nogood_of (sheet_on P).limit s)) (refuse 22)) (refuse 20)

unfoldable pub put_slip : Shelf → Page → Slip → List ℕ → Read Shelf
put_slip K P s rest = pick (well_formed (sheet_on P) s) (put_in K P s) (refuse 18)

-- what put answers, given work of the length it asks for: 3 to 13 for the sheet, 17 and 18 for the slip, 20, 22, 23; or the new shelf
unfoldable pub put_on : Shelf → List ℕ → List ℕ → Read Shelf
put_on K sheet slip = after (page sheet) (λ P rest. after (read_slip slip) (put_slip K P))

-- What a call gives and leaves: the refusal number, 0 where it finished; the shelf; what the work holds. Sheet and slip are only read.
pub record Put : Type 0 where
  pub number : ℕ
  pub shelf : Shelf
  pub work : List ℕ

-- a refused call leaves the shelf as it was
unfoldable pub put_outcome : Shelf → Read Shelf → List ℕ → Put
put_outcome K (got L rest) work = record { number = 0; shelf = L; work = zeroed work }
put_outcome K (refuse e) work = record { number = e; shelf = K; work = work_after e work }

-- put, for every shelf, sheet, work and slip; 1: work under 16,384 numbers
unfoldable pub put : Shelf → List ℕ → List ℕ → List ℕ → Put
put K sheet work slip = put_outcome K (pick (ltb (length work) work_numbers) (refuse 1) (put_on K sheet slip)) work

-- the earliest put slip that applies (22: another map, other service minutes, another source or target)
unfoldable pub ask_in : Shelf → Page → List ℕ → Read Found
ask_in K P rest = pick (fits_base K (base_of P)) (got (earliest (λ k. applies k (sheet_on P)) K.slips) rest) (refuse 22)

-- what ask answers: 3 to 13 for the sheet, 22; or what it found
unfoldable pub ask_on : Shelf → List ℕ → Read Found
ask_on K sheet = after (page sheet) (ask_in K)

-- What a call gives: the refusal number, 0 where it finished, and what it found. The shelf and the sheet are only read.
pub record Told : Type 0 where
  pub number : ℕ
  pub found : Found

unfoldable pub told : Read Found → Told
told (got f rest) = record { number = 0; found = f }
told (refuse e) = record { number = e; found = missing }

-- ask, for every shelf and sheet
unfoldable pub ask : Shelf → List ℕ → Told
ask K sheet = told (ask_on K sheet)

-- The shelves that are reached: one without slips is an empty one, whatever its base, and putting leads from one to the next. Asking leaves a shelf as it is.
pub data Reached : Shelf → Type 0 where
  made : {K : Shelf} → K.slips ≡ [] → Reached K
  puts : {K : Shelf} → Reached K → (sheet work slip : List ℕ) → Reached (put K sheet work slip).shelf
