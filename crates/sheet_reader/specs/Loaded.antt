-- What a read leaves, as its callers meet it: the numbers of the sheet that was taken.
use Rattle.std.specs.Prelude.{ℕ, ◌≡◌, List, [], length}
use Rattle.varint.specs.Varint.{got}
use Rattle.walks.specs.declared.arc.Arc.{Arc}
use Rattle.sheet.specs.declared.Header.{Header}
use Rattle.sheet.specs.Page.{Page, sheet_on}
use Rattle.sheet.specs.Reader.{page, taken}
use Rattle.sheet.specs.Sheet.{sheet_of}
use Rattle.sheet_required.specs.Whole.{Whole}

-- the numbers are whole, and they make the sheet that was taken
pub record Loaded (sheet : List ℕ) (h : Header) (arcs : List Arc) (marks : List ℕ) : Type 0 where
  pub makes : taken sheet ≡ got (sheet_of h arcs marks) []
  pub whole : Whole h arcs marks

-- the same with what the sheet says: the numbers make what it means, and the service minutes are its own
pub record LoadedPage (sheet : List ℕ) (h : Header) (arcs : List Arc) (marks services : List ℕ) : Type 0 where
  pub on : Page
  pub took : page sheet ≡ got on []
  pub means : sheet_on on ≡ sheet_of h arcs marks
  pub served : on.services ≡ services
  pub whole : Whole h arcs marks
  pub count : length services ≡ h.nodes
