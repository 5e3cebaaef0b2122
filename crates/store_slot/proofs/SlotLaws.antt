-- Laws of a slot's lists: counts that are cut to the room there is take the same items. Assumes nothing.
use Prim.Native.Nat.{ℕ, ◌+◌, ◌-◌, ◌≤◌, min}
use mathlib.Core.Path.{◌≡◌, refl, sym, ap, ◌∙◌}
use mathlib.Core.Bool.{Bool, true, false, ◌&&◌}
use mathlib.Core.List.{List, ◌++◌, append_assoc}
use native.Mathlib.Omega.{arith}
use lib.ListN.{length, take, drop, length-take, length-drop, length-append}
use lib.Seq.{take_all, take_at, drop_at}
use lib.Dec.{leb}
use borrow.Author.Tests.{le-leb, leb-true}
use Rattle.lists.proofs.FrontLaws.{take_least, drop_least, Room}
use Rattle.lists.specs.Lists.{pick, front}
use Rattle.slip_reader.specs.Form.{slip_from}
use Rattle.store_rules.specs.Shelf.{nogood_of}
use Rattle.store_slot.specs.Slot.{goals_in, reasons_in, shown}
use Rattle.store_slot.specs.declared.Slot.{Slot}

-- room for two lists by their counts
pub counted_room : {g r : ℕ} {gs rs d : List ℕ} → length gs ≡ g → length rs ≡ r → g + r ≤ length d → Room gs rs d
counted_room p q h = record { fits = simp length-append (omega (arith, p, q, h)) }

-- what a slot shows whose items were read from a slip, counted by g and r
pub shown_read : (first limit g r : ℕ) (gs rs d : List ℕ) {items : List ℕ} → first ≤ 3 → length gs ≡ g → length rs ≡ r → items ≡ front (gs ++ rs) d
    → shown (record { first = first; limit = limit; goals = g; reasons = r; items = items }) ≡ nogood_of limit (slip_from first gs rs)
unfolding shown goals_in reasons_in nogood_of
shown_read first limit g r gs rs d {items} h p q e =
    let z : leb first 3 ≡ true = le-leb first 3 h in
    let f : items ≡ gs ++ (rs ++ drop (length (gs ++ rs)) d) = e ∙ append_assoc gs rs _ in
    let a : take g items ≡ gs = ap (take g) f ∙ take_at gs _ g p in
    let b : take r (drop g items) ≡ rs = ap (λ (xs : List ℕ). take r (drop g xs)) f ∙ ap (take r) (drop_at gs _ g p) ∙ take_at rs _ r q in
    rw (z, a, b)

-- a slot shows a first number of at most 3, and at most 24 items
pub shown_first : (k : Slot) → (shown k).first ≤ 3
unfolding shown
shown_first k = go (leb k.first 3) refl
  where
    go : (t : Bool) → leb k.first 3 ≡ t → pick t k.first 0 ≤ 3
    go true e = leb-true k.first 3 e
    go false e = omega arith

pub few_shown : (k : Slot) → length k.items ≡ 24 → length (goals_in k) + length (reasons_in k) ≤ 24
unfolding goals_in reasons_in
few_shown k l = simp (length-take, length-drop) (omega (arith, l))

pub shown_few : (k : Slot) → length (goals_in k) + length (reasons_in k) ≤ 24 → length (shown k).goals + length (shown k).reasons ≤ 24
unfolding shown
shown_few k l = l

-- the lists that a slot shows, by the cut counts
pub goals_cut : (k : Slot) → length k.items ≡ 24 → {g : ℕ} → g ≡ min k.goals 24 → take g k.items ≡ goals_in k
unfolding goals_in
goals_cut k l p = ap (λ (n : ℕ). take n k.items) (p ∙ ap (min k.goals) (sym l)) ∙ take_least k.goals k.items

pub reasons_cut : (k : Slot) → length k.items ≡ 24 → {g r : ℕ} → g ≡ min k.goals 24 → r ≡ min k.reasons (24 - g)
    → take r (take (24 - g) (drop g k.items)) ≡ reasons_in k
unfolding reasons_in
reasons_cut k l {g} {r} p q =
    let d : drop g k.items ≡ drop k.goals k.items = ap (λ (n : ℕ). drop n k.items) (p ∙ ap (min k.goals) (sym l)) ∙ drop_least k.goals k.items in
    let n : length (drop k.goals k.items) ≡ 24 - g = ap length (sym d) ∙ length-drop g k.items ∙ ap (◌- g) l in
    let s : r ≡ min k.reasons (length (drop k.goals k.items)) = q ∙ ap (min k.reasons) (sym n) in
    rw (d, ← n, take_all (length (drop k.goals k.items)) (drop k.goals k.items) (omega arith), s) (take_least k.reasons (drop k.goals k.items))

-- three tests, of which the last was told first: where it holds, and the first does or not
pub last_fails : (a b : Bool) {c : Bool} → c ≡ false → false ≡ (a && (b && c))
last_fails true true e = sym e
last_fails true false e = refl
last_fails false b e = refl

pub first_fails : {a : Bool} (b : Bool) → a ≡ false → false ≡ (a && b)
first_fails b e = rw e

pub second_tells : {a b c : Bool} → a ≡ true → c ≡ true → b ≡ (a && (b && c))
second_tells {a} {b} e z = rw (e, z) (go b)
  where
    go : (b : Bool) → b ≡ (b && true)
    go true = refl
    go false = refl
