-- From what the code finds to what ask answers. Assumes nothing.
use Prim.Native.Nat.{ℕ}
use mathlib.Core.Path.{◌≡◌, sym, ap, fun_ext, ◌∙◌}
use mathlib.Core.Bool.{Bool, true, false}
use mathlib.Core.List.{List, map}
use Rattle.std.specs.Prelude.{Option}
use Rattle.std.specs.List.{find}
use Rattle.varint.specs.declared.refusal.Refusal.{Refusal}
use Rattle.varint.specs.Refusal.{number_of}
use Rattle.varint.specs.Varint.{refuse, after}
use Rattle.walks.specs.declared.arc.Arc.{Arc}
use Rattle.sheet.specs.Page.{sheet_on}
use Rattle.sheet.specs.Reader.{page}
use Rattle.sheet.specs.Sheet.{sheet_of}
use Rattle.sheet.specs.declared.Header.{Header}
use Rattle.sheet_reader.specs.Loaded.{LoadedPage}
use Rattle.store_rules.proofs.ShelfLaws.{applies_marked}
use Rattle.store_rules.specs.Shelf.{Nogood, base_of, fits_base, applies, Found, missing, earliest}
use Rattle.store_rules.specs.Store as rules
use Rattle.store_rules.specs.Store.{ask_in, ask_on, Told, told}
use Rattle.store_slot.specs.declared.Slot.{Slot}
use Rattle.store_slot.specs.Slot.{shown}
use Rattle.store_slot.specs.Lists.{applies_by}
use Rattle.store.specs.declared.Store.{Store}
use Rattle.store.specs.Held.{base_from, held_in, shelf_of, slips_in, found_slot}
use Rattle.store.proofs.EarliestLaws.{earliest_find}
use Rattle.store.proofs.BaseLaws.{page_base}

module _ (s : Store) (sheet : List ℕ) where
  pub ask_refused : (why : Refusal) → page sheet ≡ refuse (number_of why) → record { number = number_of why; found = missing } ≡ rules.ask (shelf_of s) sheet
  unfolding rules.ask ask_on after told
  ask_refused why e = rw e

  -- a sheet that was read
  module _ {h : Header} {arcs : List Arc} {marks services : List ℕ} (L : LoadedPage sheet h arcs marks services) {t : Bool} (f : t ≡ fits_base (shelf_of s) (base_from h arcs services)) where
    fits : {u : Bool} → t ≡ u → fits_base (shelf_of s) (base_of L.on) ≡ u
    fits e = ap (fits_base (shelf_of s)) (page_base L) ∙ sym f ∙ e

    pub ask_other : t ≡ false → record { number = 22; found = missing } ≡ rules.ask (shelf_of s) sheet
    unfolding rules.ask ask_on ask_in after told
    ask_other e = rw (L.took, fits e)

    pub ask_found : t ≡ true → {o : Option Slot} → o ≡ find (λ k. applies_by (shown k) marks h.limit) (held_in s)
        → record { number = 0; found = found_slot o } ≡ rules.ask (shelf_of s) sheet
    unfolding rules.ask ask_on ask_in after told shelf_of slips_in applies_by
    ask_found e r =
        let g : ◌≡◌ {A = Nogood → Bool} (λ k. applies_by k marks h.limit) (λ k. applies k (sheet_on L.on)) = fun_ext by_marks in
        rw (L.took, fits e)
        (ap {B = Told} (λ (x : Found). record { number = 0; found = x })
        (ap found_slot r ∙ earliest_find (λ k. applies_by k marks h.limit) (held_in s) ∙ ap (λ (f : Nogood → Bool). earliest f (map shown (held_in s))) g))
      where
        by_marks : (k : Nogood) → applies_by k marks h.limit ≡ applies k (sheet_on L.on)
        by_marks k = sym (applies_marked k (sheet_of h arcs marks)) ∙ ap (applies k) (sym L.means)
