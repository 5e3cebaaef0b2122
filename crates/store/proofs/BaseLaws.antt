-- Laws of the base that a store shows: compared with a sheet's, and written; and of a slip put behind the others. Assumes nothing.
use Prim.Native.Nat.{ℕ, suc, zero, ◌+◌, ◌*◌, ◌<◌, min}
use mathlib.Core.Path.{◌≡◌, refl, sym, ap, ◌∙◌}
use mathlib.Core.Bool.{Bool, true, false, false≢true}
use mathlib.Core.List.{List, [], ◌∷◌, ◌++◌, map}
use native.Mathlib.Omega.{arith}
use native.Mathlib.Numerals.{add-one}
use lib.ListN.{length, take, set, length-take}
use Rattle.std.specs.Prelude.{IsTrue, ◌↔◌}
use lib.Seq.{take_at, take-suc-set}
use Rattle.lists.proofs.TestLaws.{false_of}
use Rattle.lists.specs.Lists.{front}
use Rattle.walks.proofs.FlatLaws.{arcs_flat, flat_arcs, length_flat}
use Rattle.walks.specs.declared.arc.Arc.{Arc}
use Rattle.walks.specs.Flat.{arcs_of, flat}
use Rattle.sheet.specs.declared.Header.{Header}
use Rattle.sheet.specs.Sheet.{Sheet}
use Rattle.sheet_reader.specs.Loaded.{LoadedPage}
use Rattle.store_rules.proofs.ShelfLaws.{same_base_exact}
use Rattle.store_rules.specs.Shelf.{Base, base_of, same_base, is_empty, fits_base}
use Rattle.lists.proofs.FrontLaws.{take_least}
use Rattle.store_slot.specs.declared.Slot.{Slot}
use Rattle.store_slot.specs.Slot.{shown}
use Rattle.store.specs.declared.Store.{Store}
use Rattle.store.specs.Held.{base_from, base_in, held_in, slips_in, shelf_of}
use Rattle.store.specs.Steps.{Based}

-- a list cut to the room there is
pub cut : {A : Type 0} (xs : List A) (k m n : ℕ) → length xs ≡ m → n ≡ min k m → take n xs ≡ take k xs
cut xs k m n l e = ap (λ (i : ℕ). take i xs) (e ∙ ap (min k) (sym l)) ∙ take_least k xs

-- a store's base is a sheet's where the numbers that count are the same
module _ (s : Store) (h : Header) (arcs : List Arc) (services : List ℕ) (l : length s.legs ≡ 1536) where
  abbrev pub SameNumbers : Type 0
  SameNumbers =
      (s.nodes ≡ h.nodes) × (s.source ≡ h.source) × (s.target ≡ h.target) × (take s.nodes s.services ≡ services) × (take (3 * s.arcs) s.legs ≡ flat arcs)

  same_from : SameNumbers → base_from h arcs services ≡ base_in s
  unfolding base_in
  same_from e = let legs : arcs_of (take (3 * s.arcs) s.legs) ≡ arcs = rw e.4 (arcs_flat arcs) in rw (e.3, legs, e.0, e.1, e.2) refl

  same_back : base_from h arcs services ≡ base_in s → SameNumbers
  unfolding base_in
  same_back e =
      let legs = take (3 * s.arcs) s.legs in
      let c : length legs ≡ 3 * min s.arcs 512 = length-take (3 * s.arcs) s.legs ∙ rw l (omega arith) in
      let g : flat arcs ≡ flat (arcs_of legs) = ap (λ (B : Base). flat B.graph.arcs) e in (
        sym (ap (λ (B : Base). B.graph.nodes) e),
        sym (ap (λ (B : Base). B.source) e),
        sym (ap (λ (B : Base). B.target) e),
        sym (ap (λ (B : Base). B.services) e),
        sym (g ∙ flat_arcs legs (min s.arcs 512) c),
      )

  pub base_told : {r : Bool} → (IsTrue r ↔ SameNumbers) → r ≡ same_base (base_in s) (base_from h arcs services)
  base_told {r = true} e = sym ((same_base_exact (base_in s) (base_from h arcs services)).1 (same_from (e.0 refl)))
  base_told {r = false} e = sym (false_of (same_base (base_in s) (base_from h arcs services)) (λ t. false≢true (e.1 (same_back ((same_base_exact (base_in s) (base_from h arcs services)).0 t)))))

-- a store without slips is for every base, another by its own
module _ (s : Store) (base : Base) where
  pub no_slips : s.count ≡ 0 → true ≡ fits_base (shelf_of s) base
  unfolding fits_base shelf_of slips_in held_in is_empty
  no_slips e = rw e

  pub some_slips : (s.count ≡ 0 → ⊥) → length s.slots ≡ 64 → {r : Bool} → r ≡ same_base (base_in s) base → r ≡ fits_base (shelf_of s) base
  unfolding fits_base shelf_of slips_in held_in is_empty
  some_slips n l e = rw (there s.count s.slots n l) e
    where
      there : (k : ℕ) (xs : List Slot) → (k ≡ 0 → ⊥) → length xs ≡ 64 → is_empty (map shown (take k xs)) ≡ false
      there zero xs n l = absurd (n refl)
      there (suc k) [] n l = absurd (omega arith)
      there (suc k) (x ∷ xs) n l = refl

-- the base that is written is the one that is shown
pub based_as :
    (before s : Store) (h : Header) (arcs : List Arc) (services : List ℕ) → length arcs ≡ h.arcs → length services ≡ h.nodes → s.nodes ≡ h.nodes
    → s.arcs ≡ h.arcs → s.source ≡ h.source → s.target ≡ h.target → s.legs ≡ front (flat arcs) before.legs → s.services ≡ front services before.services
    → s.count ≡ before.count → s.slots ≡ before.slots → Based before (base_from h arcs services) s
unfolding base_in slips_in held_in
based_as before s h arcs services l k n m p q e v c t =
    let f : take (3 * s.arcs) s.legs ≡ flat arcs = rw (m, e) (take_at (flat arcs) _ (3 * h.arcs) (omega (arith, length_flat arcs, l))) in
    let g : take s.nodes s.services ≡ services = rw (n, v) (take_at services _ h.nodes k) in
    record { base = rw (f, g, n, p, q, arcs_flat arcs) refl; count = c; slips = rw (c, t) }

-- the base of a sheet that was read is the one that its numbers make
pub page_base : {sheet : List ℕ} {h : Header} {arcs : List Arc} {marks services : List ℕ} (L : LoadedPage sheet h arcs marks services) → base_of L.on ≡ base_from h arcs services
unfolding base_of
page_base {h = h} {arcs = arcs} L =
    ap {B = Base} (λ (S : Sheet). record { graph = S.graph; services = L.on.services; source = S.source; target = S.target }) L.means
    ∙ ap {B = Base} (base_from h arcs) L.served

map_append : {A B : Type 0} (f : A → B) (xs : List A) (y : A) → map f (xs ++ (y ∷ [])) ≡ map f xs ++ (f y ∷ [])
map_append f [] y = refl
map_append f (x ∷ xs) y = ap (λ (l : List _). f x ∷ l) (map_append f xs y)

-- the slips with one more behind them
pub added_slips : (slots : List Slot) (n : ℕ) (slot : Slot) → n < length slots → map shown (take (n + 1) (set slots n slot)) ≡ map shown (take n slots) ++ (shown slot ∷ [])
added_slips slots n slot h = rw (add-one n, take-suc-set slots n slot h) (map_append shown (take n slots) slot)
