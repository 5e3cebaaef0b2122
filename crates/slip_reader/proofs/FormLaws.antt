-- Laws of a slip's parts: its bytes in a row, and what each part that was judged says of the whole. Assumes nothing.
use Prim.Native.Nat.{ℕ, ◌≤◌, ◌<◌}
use mathlib.Core.Path.{◌≡◌, refl, ap, sym, ◌∙◌}
use mathlib.Core.List.{List, [], ◌∷◌, ◌++◌, append_assoc}
use mathlib.Core.Bool.{true}
use lib.Dec.{ltb}
use lib.ListN.{length}
use borrow.Author.Tests.{ltb-true}
use Rattle.lists.specs.Lists.{every}
use Rattle.lists.proofs.FrontLaws.{Room}
use Rattle.lists.proofs.TestLaws.{and_true, true_and}
use Rattle.varint.specs.Varint.{write_number, write_numbers}
use Rattle.varint.specs.Answer.{small}
use Rattle.lists.proofs.RowLaws.{rows_append}
use Rattle.varint.proofs.WriteLaws.{numbers_rows}
use Rattle.sheet.specs.Slip.{slip_numbers, slip_bytes}
use Rattle.slip_reader.specs.Form.{slip_from, list_bytes}

-- a list is its count with its numbers behind it
pub list_room : (xs d : List ℕ) → length (list_bytes xs) ≤ length d → Room (write_number (length xs)) (write_numbers xs) d
unfolding list_bytes write_numbers
list_room xs d h = record { fits = h }

pub slip_parts : (v : ℕ) (gs rs : List ℕ) → slip_bytes (slip_from v gs rs) ≡ (write_number v ++ list_bytes gs) ++ list_bytes rs
unfolding slip_bytes slip_numbers list_bytes write_numbers
slip_parts v gs rs =
    ap (λ (bs : List ℕ). write_number v ++ bs) (rows_append numbers_rows (length gs ∷ gs) (length rs ∷ rs))
    ∙ sym (append_assoc (write_number v) (write_numbers (length gs ∷ gs)) (write_numbers (length rs ∷ rs)))

pub small_cons : (x : ℕ) (xs : List ℕ) → small (x ∷ xs) ≡ true → (x < 268435456) × (small xs ≡ true)
unfolding small
small_cons x xs e = let w = and_true (ltb x 268435456) _ e in (ltb-true x 268435456 w.0, w.1)

small_append : (xs ys : List ℕ) → small (xs ++ ys) ≡ true → (small xs ≡ true) × (small ys ≡ true)
unfolding small
small_append [] ys e = (refl, e)
small_append (x ∷ xs) ys e =
    let w = and_true (ltb x 268435456) _ e in
    let r = small_append xs ys w.1 in
    (true_and w.0 r.0, r.1)

-- the numbers of a slip are small, each of its parts by itself
pub small_parts :
    (v : ℕ) (gs rs : List ℕ) → small (slip_numbers (slip_from v gs rs)) ≡ true
    → (v < 268435456) × (small (length gs ∷ gs) ≡ true) × (small (length rs ∷ rs) ≡ true)
unfolding slip_numbers
small_parts v gs rs e =
    let w = small_cons v _ e in
    let r = small_append (length gs ∷ gs) (length rs ∷ rs) w.1 in
    (w.0, r.0, r.1)
