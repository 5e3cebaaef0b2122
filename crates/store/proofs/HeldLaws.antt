-- Laws of the slips that a newcomer leaves on a store. Assumes nothing.
use Prim.Native.Nat.{ℕ, suc, ◌≤◌, min}
use mathlib.Core.Path.{◌≡◌, refl, sym, ap, ◌∙◌}
use mathlib.Core.Bool.{not}
use mathlib.Core.List.{List, [], ◌∷◌, map}
use lib.ListN.{length, take, length-take}
use lib.Seq.{length-take-le}
use Rattle.lists.specs.Lists.{keep}
use Rattle.store_rules.specs.Shelf.{subsumes}
use Rattle.lists.proofs.FrontLaws.{take_least}
use Rattle.store_slot.specs.declared.Slot.{Slot}
use Rattle.store_slot.specs.Slot.{shown}
use Rattle.store.specs.declared.Store.{Store}
use Rattle.store.specs.Held.{held_in, slips_in}
use Rattle.lists.proofs.MovedLaws.{keep_map, Moved}

-- n slots of the store count
pub record Counted (s : Store) (n : ℕ) : Type 0 where
  pub slots : length s.slots ≡ 64
  pub count : n ≡ min s.count 64

pub counted : (s : Store) → length s.slots ≡ 64 → {ks : List Slot} → ks ≡ held_in s → Counted s (length ks)
unfolding held_in
counted s l e = record { slots = l; count = ap length e ∙ length-take s.count s.slots ∙ ap (min s.count) l }

-- n slots in front show n slips
pub shown_count : (n : ℕ) (slots : List Slot) → n ≤ length slots → length (map shown (take n slots)) ≡ n
shown_count n slots h = go (take n slots) ∙ length-take-le n slots h
  where
    go : (ks : List Slot) → length (map shown ks) ≡ length ks
    go [] = refl
    go (k ∷ ks) = ap suc (go ks)

-- what the newcomer does not subsume, moved up, is what a store then shows
pub rest_held : (before : Store) (slot : Slot) (n : ℕ) {slots : List Slot} {j : ℕ} → Counted before n → Moved (λ k. not (subsumes (shown slot) (shown k))) before.slots slots n j
    → map shown (take j slots) ≡ keep (λ k. not (subsumes (shown slot) k)) (slips_in before)
unfolding slips_in held_in
rest_held before slot n c m =
    let e : take n before.slots ≡ take before.count before.slots =
    ap (λ (k : ℕ). take k before.slots) (c.count ∙ ap (min before.count) (sym c.slots)) ∙ take_least before.count before.slots in
    ap (map shown) (m.front ∙ ap (keep (λ k. not (subsumes (shown slot) (shown k)))) e) ∙ sym (keep_map shown (λ k. not (subsumes (shown slot) k)) (take before.count before.slots))
