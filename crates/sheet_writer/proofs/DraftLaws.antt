-- A draft without fault: each of its numbers has a written form, its content is the five numbers, the arcs' numbers and the marks in a row, each mark as it
-- is, and its sheet is that content, with a 1 before it and the service minutes behind it where there are any. And what a call that writes it answers. Assumes
-- nothing.
use Prim.Native.Nat.{ℕ, ◌+◌, ◌≤◌}
use mathlib.Core.Path.{◌≡◌, sym, ap, ◌∙◌}
use mathlib.Core.Bool.{Bool, true, false}
use mathlib.Core.List.{List, ◌++◌, append_assoc}
use native.Mathlib.Omega.{arith}
use lib.ListN.{length, length-append}
use lib.Dec.{leb, eqb}
use borrow.Author.Tests.{leb-true, eq-eqb, ne_eqb}
use Rattle.lists.proofs.RowLaws.{rows_append}
use Rattle.lists.specs.Lists.{front, Put}
use Rattle.varint.proofs.WriteLaws.{numbers_rows, small_below}
use Rattle.varint.specs.Answer.{small}
use Rattle.varint.specs.Varint.{write_numbers}
use Rattle.sheet.specs.Answer.{wrote, fitted}
use Rattle.sheet.specs.Draft.{Draft, plain_numbers, draft_sheet, draft_page, header_numbers, sheet_numbers, with_services, page_numbers, page_bytes}
use Rattle.sheet.specs.Page.{no_service}
use Rattle.sheet.specs.Writer.{draft_fault, write_on, sheet_written}
use Rattle.sheet.proofs.FaultLaws.{Faultless, faultless}
use Rattle.sheet.proofs.SizeLaws.{bytes_alone, content_short, served_length, page_size}
use Rattle.sheet.proofs.WriterLaws.{sheet_numbers_lem, faultless_good}

-- what was written for numbers that are those of another list
pub put_as : (d : List ℕ) {xs ys out : List ℕ} {n : ℕ} → xs ≡ ys → Put (write_numbers xs) d out n → Put (write_numbers ys) d out n
put_as d e w = (w.0 ∙ ap (λ (zs : List ℕ). length (write_numbers zs)) e, w.1 ∙ ap (λ (zs : List ℕ). front (write_numbers zs) d) e)

module _ (d : Draft) where
  -- the form is that of its service minutes
  pub plain_form : no_service d.services ≡ true → page_bytes (draft_page d) ≡ write_numbers (sheet_numbers (draft_sheet d))
  unfolding page_bytes page_numbers
  plain_form e = rw e

  pub served_form : no_service d.services ≡ false → page_bytes (draft_page d) ≡ write_numbers (with_services (sheet_numbers (draft_sheet d)) d.services)
  unfolding page_bytes page_numbers
  served_form e = rw e

  -- and so is its length
  pub served_size : {a b : ℕ} → a ≡ length (write_numbers (sheet_numbers (draft_sheet d))) → b ≡ length (write_numbers d.services)
      → no_service d.services ≡ false → 1 + a + b ≡ length (page_bytes (draft_page d))
  served_size p q e = rw (p, q) (sym (ap length (served_form e) ∙ served_length (sheet_numbers (draft_sheet d)) d.services))

  module _ (z : draft_fault d ≡ 0) where
    f : Faultless d
    f = faultless d z

    pub small_header : small (header_numbers d.header) ≡ true
    small_header = small_below 268435456 (header_numbers d.header) (omega arith) f.header

    pub small_arcs : small d.arcs ≡ true
    small_arcs = small_below 268435456 d.arcs (omega arith) f.arcs

    pub small_services : small d.services ≡ true
    small_services = small_below 268435456 d.services (omega arith) f.services

    pub content_bytes :
        write_numbers (sheet_numbers (draft_sheet d)) ≡ (write_numbers (header_numbers d.header) ++ write_numbers d.arcs) ++ d.marks
    unfolding plain_numbers
    content_bytes =
        let h = header_numbers d.header in
        ap write_numbers (sheet_numbers_lem d f.sized) ∙ rows_append numbers_rows h (d.arcs ++ d.marks)
        ∙ ap (λ (bs : List ℕ). write_numbers h ++ bs)
        (rows_append numbers_rows d.arcs d.marks ∙ ap (λ (bs : List ℕ). write_numbers d.arcs ++ bs) (bytes_alone d.marks f.marks))
        ∙ sym (append_assoc (write_numbers h) (write_numbers d.arcs) d.marks)

    pub content_length :
        length (write_numbers (sheet_numbers (draft_sheet d)))
        ≡ length (write_numbers (header_numbers d.header)) + length (write_numbers d.arcs) + length d.marks
    content_length = ap length content_bytes ∙ simp length-append

    pub content_few : length (write_numbers (sheet_numbers (draft_sheet d))) ≤ 3144
    content_few = content_short (draft_sheet d) (faultless_good d z).says

    pub sheet_few : length (page_bytes (draft_page d)) ≤ 3273
    sheet_few = (page_size (draft_page d) (faultless_good d z)).0

    module _ (out : List ℕ) where
      fine : eqb (draft_fault d) 0 ≡ true
      fine = eq-eqb (draft_fault d) 0 z

      -- the sheet was measured, and it was asked whether there is room for it
      module _ {size : ℕ} {fits : Bool} (m : size ≡ length (page_bytes (draft_page d))) (f : fits ≡ leb size (length out)) where
        -- 19
        pub short_written : fits ≡ false → record { number = 19; length = 0; out = out } ≡ sheet_written d out
        unfolding sheet_written write_on wrote fitted
        short_written n = let q : leb (length (page_bytes (draft_page d))) (length out) ≡ false = rw (← m) (sym f ∙ n) in rw (fine, q)

        module _ (y : fits ≡ true) where
          enough : leb (length (page_bytes (draft_page d))) (length out) ≡ true
          enough = rw (← m) (sym f ∙ y)

          pub room : length (page_bytes (draft_page d)) ≤ length out
          room = leb-true (length (page_bytes (draft_page d))) (length out) enough

          pub sheet_written_lem : {left : List ℕ} {n : ℕ} → Put (page_bytes (draft_page d)) out left n
              → record { number = 0; length = n; out = left } ≡ sheet_written d out
          unfolding sheet_written write_on wrote fitted
          sheet_written_lem w = rw (fine, enough, w.0, w.1)

  -- the first fault
  pub fault_written : {e : ℕ} → e ≡ draft_fault d → (e ≡ 0 → ⊥) → (out : List ℕ) → record { number = e; length = 0; out = out } ≡ sheet_written d out
  unfolding sheet_written write_on wrote
  fault_written q n out = rw (← q, ne_eqb _ 0 n)
