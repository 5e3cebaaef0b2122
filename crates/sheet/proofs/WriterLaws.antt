-- The writer and the reader: what is written reads back as the same numbers (`written_back`), and a sheet that is taken, written again, is the same bytes
-- (`written_again`), so that it has one form (`one_form`). Both follow from how a draft is read (`draft_back`), the second with the page's numbers being those
-- that were read. Assumes nothing.
use Prim.Native.Nat.{ℕ, zero, suc, ◌≤◌}
use mathlib.Core.Path.{◌≡◌, refl, sym, ap, ◌∙◌, subst}
use mathlib.Core.Bool.{Bool, true, false}
use mathlib.Core.List.{List, [], append-nil}
use native.Mathlib.Omega.{arith}
use lib.ListN.{length}
use lib.Dec.{eqb, leb}
use borrow.Author.Tests.{eqb-true, le-leb}
use Rattle.lists.specs.Lists.{pick}
use Rattle.lists.proofs.Pigeonhole.{Below}
use Rattle.varint.specs.Varint.{Read, got, write_numbers}
use Rattle.walks.proofs.FlatLaws.{flat_arcs, arcs_flat, arcs_many, length_flat}
use Rattle.walks.specs.declared.arc.Arc.{Arc}
use Rattle.walks.specs.Flat.{flat}
use Rattle.sheet.proofs.AgainLaws.{Numbers, made, page_again}
use Rattle.sheet.proofs.BackLaws.{faulted}
use Rattle.sheet.proofs.DraftLaws.{form_is, draft_back}
use Rattle.sheet.proofs.FaultLaws.{faultless}
use Rattle.sheet.proofs.SheetLaws.{page_got, page_good}
use Rattle.sheet.specs.Answer.{finished, refused, fitted}
use Rattle.sheet.specs.Draft.{header_numbers, sheet_numbers, page_numbers, page_bytes, Draft, page_draft, plain_numbers, draft_numbers, draft_sheet, draft_page, DraftSized}
use Rattle.sheet.specs.Good.{GoodPage}
use Rattle.sheet.specs.Page.{Page, no_service}
use Rattle.sheet.specs.Reader.{page}
use Rattle.sheet.specs.Sheet.{header_of}
use Rattle.sheet.specs.Writer.{draft_fault, write_on}

-- the numbers of the draft's sheet are the draft's, and so are those of its page, where the form is left to the service minutes
module _ (d : Draft) (s : DraftSized d) where
  pub sheet_numbers_lem : sheet_numbers (draft_sheet d) ≡ plain_numbers d
  unfolding sheet_numbers header_of header_numbers plain_numbers
  sheet_numbers_lem = rw (arcs_many d.arcs d.header.arcs s.0, flat_arcs d.arcs d.header.arcs s.0)

  page_numbers_lem : 2 ≤ d.header.nodes → page_numbers (draft_page d) ≡ draft_numbers d
  unfolding page_numbers draft_numbers
  page_numbers_lem l = rw (form_is (no_service d.services) d.header.nodes l, sheet_numbers_lem)

fitted_got : (xs out bytes : List ℕ) → fitted xs out ≡ finished bytes → xs ≡ bytes
unfolding fitted
fitted_got xs out bytes e = go (leb (length xs) (length out)) e
  where
    go : (t : Bool) → pick t (finished xs) (refused 19) ≡ finished bytes → xs ≡ bytes
    go true q = cc
    go false q = absurd (let z : ◌≡◌ {A = ℕ} 0 1 = cc in omega arith)

-- where the writer finishes, there was no fault, and it wrote the bytes of the draft's page
finished_got : (d : Draft) (out bytes : List ℕ) → write_on d out ≡ finished bytes → (draft_fault d ≡ 0) × (page_bytes (draft_page d) ≡ bytes)
unfolding write_on
finished_got d out bytes e = go (eqb (draft_fault d) 0) refl e
  where
    go : (t : Bool) → eqb (draft_fault d) 0 ≡ t → pick t (fitted (page_bytes (draft_page d)) out) (refused (draft_fault d)) ≡ finished bytes
        → (draft_fault d ≡ 0) × (page_bytes (draft_page d) ≡ bytes)
    go true p q = (eqb-true (draft_fault d) 0 p, fitted_got (page_bytes (draft_page d)) out bytes q)
    go false p q = absurd (let z : ◌≡◌ {A = ℕ} 0 1 = cc in omega arith)

-- and where there is no fault and enough room, it finishes with them
pub got_finished : (d : Draft) (out : List ℕ) → draft_fault d ≡ 0 → length (page_bytes (draft_page d)) ≤ length out
    → write_on d out ≡ finished (page_bytes (draft_page d))
unfolding write_on fitted
got_finished d out e h = rw (e, le-leb _ _ h)

-- a draft without a fault is taken as its page
pub faultless_taken : (d : Draft) → draft_fault d ≡ 0 → page (page_bytes (draft_page d)) ≡ got (draft_page d) []
unfolding page_bytes faulted
faultless_taken d e =
    let f = faultless d e in
    rw (page_numbers_lem d f.sized f.low)
    (draft_back d f.sized f.count f.below ∙ ap (λ (e : ℕ). faulted e (got (draft_page d) [])) e)

pub faultless_good : (d : Draft) → draft_fault d ≡ 0 → GoodPage (draft_page d)
faultless_good d e = page_good _ (draft_page d) [] (faultless_taken d e)

-- what is written reads back as the same numbers
pub written_back : (d : Draft) (out bytes : List ℕ) → write_on d out ≡ finished bytes
    → (page bytes ≡ got (draft_page d) []) × (flat (draft_sheet d).graph.arcs ≡ d.arcs) × (length (draft_sheet d).graph.arcs ≡ d.header.arcs)
written_back d out bytes e =
    let w = finished_got d out bytes e in
    let s = (faultless d w.0).sized.0 in
    (ap page (sym w.1) ∙ faultless_taken d w.0, flat_arcs d.arcs d.header.arcs s, arcs_many d.arcs d.header.arcs s)

-- the draft of a page's numbers makes that page
draft_again : (P : Page) → draft_page (page_draft P) ≡ P
unfolding header_of
draft_again P =
    let S = P.says in
    ap {B = Page} (λ (xs : List Arc). record { says = made (header_of S) xs S.marks; services = P.services }) (arcs_flat S.graph.arcs)

faulted_got : {A : Type 0} (e : ℕ) (r : Read A) (a : A) (bs : List ℕ) → faulted e r ≡ got a bs → e ≡ 0
unfolding faulted
faulted_got zero r a bs q = refl
faulted_got (suc e) r a bs q = absurd (let z : ◌≡◌ {A = ℕ} 0 1 = cc in omega arith)

module _ (bs : List ℕ) (P : Page) (B : Below 256 bs) (e : page bs ≡ got P []) where
  numbers : Numbers (page_numbers P) bs []
  numbers = page_again bs P [] B (page_got bs P [] e).0.whole

  bytes_again : page_bytes P ≡ bs
  unfolding page_bytes
  bytes_again = sym (numbers.bytes ∙ append-nil (write_numbers (page_numbers P)))

  faultless_again : draft_fault (page_draft P) ≡ 0
  unfolding page_bytes header_of
  faultless_again =
      let g = page_good bs P [] e in
      let d = page_draft P in
      let s : DraftSized d = (length_flat P.says.graph.arcs, g.says.size) in
      let q : page_numbers P ≡ draft_numbers d = ap page_numbers (sym (draft_again P)) ∙ page_numbers_lem d s g.says.low in
      faulted_got (draft_fault d) (got (draft_page d) []) P []
      (sym (draft_back d s g.count (subst (Below 268435456) q numbers.small)) ∙ ap (λ (ns : List ℕ). page (write_numbers ns)) (sym q) ∙ ap page bytes_again ∙ e)

-- a sheet that is taken, written again, is the same bytes
pub written_again : (bs : List ℕ) (P : Page) → Below 256 bs → page bs ≡ got P []
    → (page_bytes P ≡ bs) × ((out : List ℕ) → length bs ≤ length out → write_on (page_draft P) out ≡ finished bs)
written_again bs P B e =
    let p = bytes_again bs P B e in
    let q : page_bytes (draft_page (page_draft P)) ≡ bs = ap page_bytes (draft_again P) ∙ p in
    (p, λ out h. got_finished (page_draft P) out (faultless_again bs P B e) (rw q h) ∙ ap finished q)

-- so a sheet has one form only
pub one_form : (bs cs : List ℕ) (P : Page) → Below 256 bs → Below 256 cs → page bs ≡ got P [] → page cs ≡ got P [] → bs ≡ cs
one_form bs cs P B C e f = sym (bytes_again bs P B e) ∙ bytes_again cs P C f
