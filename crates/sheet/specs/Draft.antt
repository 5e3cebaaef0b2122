-- The numbers of a sheet in their order and its bytes (document 01, 'Sheet and slip'; document 02, request 2.7), and drafts of a sheet.
use Rattle.std.specs.Prelude.{ℕ, ◌≡◌, ◌+◌, ◌*◌, not, ◌&&◌, List, [], ◌∷◌, ◌++◌, length, eqb}
use Rattle.lists.specs.Lists.{pick}
use Rattle.varint.specs.Varint.{write_numbers}
use Rattle.walks.specs.Flat.{arcs_of, flat}
use Rattle.sheet.specs.declared.Header.{Header}
use Rattle.sheet.specs.Page.{Page, no_service}
use Rattle.sheet.specs.Sheet.{Sheet, header_of, sheet_of}

-- the five numbers in front
unfoldable pub header_numbers : Header → List ℕ
header_numbers h = h.nodes ∷ h.arcs ∷ h.source ∷ h.target ∷ h.limit ∷ []

-- the numbers of a sheet without service minutes: the five, then tail, head and minutes of each arc, then the marks
unfoldable pub sheet_numbers : Sheet → List ℕ
sheet_numbers S = header_numbers (header_of S) ++ (flat S.graph.arcs ++ S.marks)

-- the form with service minutes: a 1 before them, the service minutes behind them
unfoldable pub with_services : List ℕ → List ℕ → List ℕ
with_services numbers services = 1 ∷ (numbers ++ services)

-- the numbers of a page, in the form without service minutes where all of them are 0
unfoldable pub page_numbers : Page → List ℕ
page_numbers P = pick (no_service P.services) (sheet_numbers P.says) (with_services (sheet_numbers P.says) P.services)

-- its bytes, each number in shortest form
unfoldable pub page_bytes : Page → List ℕ
page_bytes P = write_numbers (page_numbers P)

-- A draft: the numbers that are to become a sheet, as they were lent. They may be of any size and the lists of any length.
pub record Draft : Type 0 where
  pub header : Header
  pub arcs : List ℕ
  pub marks : List ℕ
  pub services : List ℕ

abbrev pub draft_of : Header → List ℕ → List ℕ → List ℕ → Draft
draft_of h arcs marks services = record { header = h; arcs = arcs; marks = marks; services = services }

-- its lists have the lengths that the header says: three numbers for each arc, and a mark for each item
abbrev pub DraftSized : Draft → Type 0
DraftSized d = (length d.arcs ≡ 3 * d.header.arcs) × (length d.marks ≡ d.header.nodes + d.header.arcs)

-- the draft of a page's own numbers
abbrev pub page_draft : Page → Draft
page_draft P = draft_of (header_of P.says) (flat P.says.graph.arcs) P.says.marks P.services

-- the sheet that its numbers make, and the page
abbrev pub draft_sheet : Draft → Sheet
draft_sheet d = sheet_of d.header (arcs_of d.arcs) d.marks

abbrev pub draft_page : Draft → Page
draft_page d = record { says = draft_sheet d; services = d.services }

-- its numbers without the service minutes, in the order of a sheet
unfoldable pub plain_numbers : Draft → List ℕ
plain_numbers d = header_numbers d.header ++ (d.arcs ++ d.marks)

-- its numbers in the form that they call for. One node calls for the form with service minutes: without the 1 before it, it would be taken for that 1.
unfoldable pub draft_numbers : Draft → List ℕ
draft_numbers d =
    pick (no_service d.services && not (eqb d.header.nodes 1)) (plain_numbers d) (with_services (plain_numbers d) d.services)
