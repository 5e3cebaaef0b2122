-- What a sheet was before service minutes came (document 02, request 2.7): where the first number is not 1 it is what it was, and a sheet with service minutes
-- drew 5. Assumes nothing.
use Prim.Native.Nat.{ℕ}
use mathlib.Core.Path.{◌≡◌, refl, ap, ◌∙◌, subst}
use mathlib.Core.Bool.{Bool, true, false}
use mathlib.Core.List.{List, [], ◌∷◌}
use lib.ListN.{length}
use lib.Dec.{leb}
use Rattle.lists.specs.Lists.{pick}
use Rattle.varint.specs.Varint.{Read, got, refuse, after, last_group, read_groups, read_number, judged, number}
use Rattle.sheet.proofs.LeadLaws.{Led, plain, led, led_is}
use Rattle.sheet.proofs.PageLaws.{served_zero, zeros_none}
use Rattle.sheet.specs.Lent.{zeros}
use Rattle.sheet.specs.Page.{Page, sheet_on}
use Rattle.sheet.specs.Reader.{read_header, read_sheet, read_services, read_page, complete, page, meant, taken}
use Rattle.sheet.specs.Sheet.{Sheet, required}

-- the reading of a sheet as it was: all of it is content, then 12 and 13
unfoldable pub old_complete : Sheet → List ℕ → Read Sheet
old_complete S (b ∷ bs) = refuse 12
old_complete S [] = pick (leb (length (required S)) 8) (got S []) (refuse 13)

unfoldable pub old_taken : List ℕ → Read Sheet
old_taken bs = after (read_sheet bs) old_complete

-- a page without service minutes
abbrev bare : Sheet → Page
bare S = record { says = S; services = zeros S.graph.nodes }

bare_means : (S : Sheet) → sheet_on (bare S) ≡ S
bare_means S = served_zero (bare S) (zeros_none S.graph.nodes)

complete_old : (S : Sheet) (rest : List ℕ) → after (complete (bare S) rest) meant ≡ old_complete S rest
unfolding complete old_complete after meant
complete_old S (b ∷ bs) = refl
complete_old S [] = subst (λ (T : Sheet). after (pick (leb (length (required (sheet_on (bare S)))) 8) (got (bare S) []) (refuse 13)) meant ≡ pick (leb (length (required T)) 8) (got T []) (refuse 13)) (bare_means S) (go (leb (length (required (sheet_on (bare S)))) 8))
  where
    go : (t : Bool) → after (pick t (got (bare S) []) (refuse 13)) meant ≡ pick t (got (sheet_on (bare S)) []) (refuse 13)
    go true = refl
    go false = refl

plain_old : (r : Read Sheet) → after (after (after r (read_services 0)) complete) meant ≡ after r old_complete
unfolding after read_services
plain_old (got S rest) = complete_old S rest
plain_old (refuse e) = refl

one_read : (rest : List ℕ) → read_number (1 ∷ rest) ≡ got 1 rest
unfolding read_number read_groups last_group
one_read rest = refl

-- A sheet whose first number is not 1 is what it was.
pub old_stays : (bs : List ℕ) → ((rest : List ℕ) → read_number bs ≡ got 1 rest → ⊥) → taken bs ≡ old_taken bs
unfolding taken page read_page old_taken
old_stays bs n = go (led_is bs)
  where
    go : Led bs → taken bs ≡ old_taken bs
    go (plain e c) = rw (e, c) (plain_old (read_sheet bs))
    go (led rest e k c) = absurd (n rest (ap read_number e ∙ one_read rest))

-- One that begins with a 1 drew 5.
pub old_refuses : (rest : List ℕ) → old_taken (1 ∷ rest) ≡ refuse 5
unfolding old_taken read_sheet read_header number judged after read_number read_groups last_group
old_refuses rest = refl
