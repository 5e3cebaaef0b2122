-- A draft whose lists have the lengths that its header says, and whose numbers can be written in the form that they call for, read as a sheet: the draft's
-- page, or its first fault. Its content is put together from its parts read back, and goes the same way in both forms. Assumes nothing.
use Prim.Native.Nat.{ℕ, zero, suc, ◌+◌, ◌*◌, ◌≤◌}
use mathlib.Core.Path.{◌≡◌, refl, sym, ap, ◌∙◌}
use mathlib.Core.Bool.{Bool, true, false, not, ◌&&◌}
use mathlib.Core.List.{List, [], ◌∷◌, ◌++◌, append_assoc, append-nil}
use native.Mathlib.Omega.{arith}
use lib.ListN.{length}
use lib.Dec.{eqb, leb}
use borrow.Author.Tests.{eqb-true, eqb-false, eq-eqb, ne_eqb}
use Rattle.lists.specs.Lists.{pick, every}
use Rattle.lists.proofs.Pigeonhole.{Below, below_parts}
use Rattle.lists.proofs.TestLaws.{and_true, not_true}
use Rattle.varint.proofs.VarintLaws.{number_back}
use Rattle.varint.proofs.WriteLaws.{below_small}
use Rattle.varint.specs.Varint.{Read, got, refuse, write_groups, write_number, write_numbers}
use Rattle.varint.specs.Answer.{small}
use Rattle.walks.proofs.FlatLaws.{arcs_many}
use Rattle.walks.specs.Flat.{arcs_of}
use Rattle.sheet.proofs.BackLaws.{faulted, then_last, then_more, header_back, arcs_back, each_back}
use Rattle.sheet.proofs.FaultLaws.{header_bounded}
use Rattle.sheet.proofs.LeadLaws.{lead_one, lead_other}
use Rattle.sheet.proofs.PageLaws.{required_served}
use Rattle.sheet.specs.Draft.{header_numbers, with_services, Draft, plain_numbers, draft_numbers, draft_sheet, draft_page, DraftSized}
use Rattle.sheet.specs.Lent.{zeros}
use Rattle.sheet.specs.Page.{Page, no_service}
use Rattle.sheet.specs.Reader.{is_mark, is_service, read_mark, read_marks, read_arcs, read_sheet, lead, content, read_service, some_service, read_services, read_page, complete, page}
use Rattle.sheet.specs.Sheet.{required}
use Rattle.sheet.specs.Writer.{fault, first_of, header_fault, size_fault, arcs_fault, each_fault, marks_fault, services_fault, required_fault, draft_fault}

-- The first of the faults: the lengths have none, and that of the service minutes is what their reading finds, where the header lets it come to that.
regroup : (h s a m v x r : ℕ) → s ≡ 0 → (h ≡ 0 → x ≡ v)
    → first_of (first_of (first_of h (first_of a m)) x) r ≡ first_of h (first_of s (first_of a (first_of m (first_of v r))))
unfolding first_of
regroup (suc h) s a m v x r e w = refl
regroup zero s (suc a) m v x r e w = rw e
regroup zero s zero (suc m) v x r e w = rw e
regroup zero s zero zero v x r e w = rw (e, w refl)

first_alone : (a : ℕ) → first_of a 0 ≡ a
unfolding first_of
first_alone zero = refl
first_alone (suc a) = refl

pub sized_fault : (d : Draft) → DraftSized d → length d.services ≡ d.header.nodes → size_fault d ≡ 0
unfolding size_fault fault
sized_fault d s c = rw (eq-eqb _ _ s.0, eq-eqb _ _ s.1, eq-eqb _ _ c)

-- what a test lets pass or refuses is a fault of the reading
pick_faulted : {A : Type 0} (e : ℕ) (t : Bool) (r : Read A) → pick t r (refuse (suc e)) ≡ faulted (fault (suc e) t) r
unfolding fault faulted
pick_faulted e true r = refl
pick_faulted e false r = refl

complete_back : (d : Draft) → complete (draft_page d) [] ≡ faulted (required_fault d) (got (draft_page d) [])
unfolding complete required_fault
complete_back d = rw (required_served (draft_page d)) (pick_faulted 12 (leb (length (required (draft_sheet d))) 8) (got (draft_page d) []))

-- the content, with the numbers t behind it
content_fault : Draft → ℕ
content_fault d = first_of (header_fault d.header) (first_of (arcs_fault d.header.nodes d.arcs) (marks_fault d.marks))

module _ (d : Draft) (s : DraftSized d) (B : Below 268435456 (plain_numbers d)) (t : List ℕ) where
  parts : Below 268435456 (header_numbers d.header) × Below 268435456 (d.arcs ++ d.marks)
  unfolding plain_numbers
  parts = below_parts 268435456 (header_numbers d.header) (d.arcs ++ d.marks) B

  lists : Below 268435456 d.arcs × Below 268435456 d.marks
  lists = below_parts 268435456 d.arcs d.marks parts.1

  marks_read : read_marks d.header (arcs_of d.arcs) (write_numbers (d.marks ++ t)) ≡ faulted (marks_fault d.marks) (got (draft_sheet d) (write_numbers t))
  unfolding read_marks read_mark
  marks_read =
      let e : length d.marks ≡ d.header.nodes + length (arcs_of d.arcs) = rw (arcs_many d.arcs d.header.arcs s.0) s.1 in
      then_last (marks_fault d.marks) d.marks (write_numbers t) (rw e at (each_back is_mark d.marks t lists.1)) _

  arcs_read : read_arcs d.header (write_numbers (d.arcs ++ (d.marks ++ t)))
      ≡ faulted (first_of (arcs_fault d.header.nodes d.arcs) (marks_fault d.marks)) (got (draft_sheet d) (write_numbers t))
  unfolding read_arcs
  arcs_read =
      then_more _ (arcs_of d.arcs) (write_numbers (d.marks ++ t)) (arcs_back d.header.nodes d.header.arcs d.arcs (d.marks ++ t) s.0 lists.0)
      (read_marks d.header) _ _ marks_read

  content_back : read_sheet (write_numbers (plain_numbers d ++ t)) ≡ faulted (content_fault d) (got (draft_sheet d) (write_numbers t))
  unfolding read_sheet plain_numbers content_fault
  content_back =
      let h = d.header in
      let p : (header_numbers h ++ (d.arcs ++ d.marks)) ++ t ≡ header_numbers h ++ (d.arcs ++ (d.marks ++ t)) = simp append_assoc in
      rw p (then_more (header_fault h) h (write_numbers (d.arcs ++ (d.marks ++ t))) (header_back h (d.arcs ++ (d.marks ++ t)) parts.0) read_arcs _ _ arcs_read)

-- service minutes that are all 0: as many zeros, without a fault
none_zeros : (ss : List ℕ) → no_service ss ≡ true → (zeros (length ss) ≡ ss) × (services_fault ss ≡ 0)
unfolding no_service zeros each_fault fault first_of
none_zeros [] e = (refl, refl)
none_zeros (x ∷ ss) e =
    let p = and_true (eqb x 0) (no_service ss) e in
    let z : x ≡ 0 = eqb-true x 0 p.0 in
    let i = none_zeros ss p.1 in
    rw z (ap (0 ∷◌) i.0, i.1)

-- two nodes or more leave the form to the service minutes
pub form_is : (t : Bool) (n : ℕ) → 2 ≤ n → (t && not (eqb n 1)) ≡ t
form_is true n l = rw (ne_eqb n 1 (λ e. omega arith))
form_is false n l = refl

module _ (d : Draft) (s : DraftSized d) (c : length d.services ≡ d.header.nodes) where
  -- a page from its content and what is read behind it
  page_back : (bs t : List ℕ) (k x : ℕ) → lead bs ≡ k → content bs ≡ write_numbers (plain_numbers d ++ t) → Below 268435456 (plain_numbers d)
      → read_services k (draft_sheet d) (write_numbers t) ≡ faulted x (got (draft_page d) []) → (header_fault d.header ≡ 0 → x ≡ services_fault d.services)
      → page bs ≡ faulted (draft_fault d) (got (draft_page d) [])
  unfolding page read_page draft_fault content_fault
  page_back bs t k x l e B r h =
      let sheet = ap read_sheet e ∙ content_back d s B t in
      let services = ap (λ (k : ℕ). read_services k (draft_sheet d) (write_numbers t)) l ∙ r in
      let whole = then_more (content_fault d) (draft_sheet d) (write_numbers t) sheet (read_services (lead bs)) x (got (draft_page d) []) services in
      then_more _ (draft_page d) [] whole complete _ _ (complete_back d)
      ∙ ap (λ (e : ℕ). faulted e (got (draft_page d) []))
      (regroup (header_fault d.header) (size_fault d) _ (marks_fault d.marks) (services_fault d.services) x (required_fault d) (sized_fault d s c) h)

  -- the form without service minutes
  plain_back : Below 268435456 (plain_numbers d) → no_service d.services ≡ true → (d.header.nodes ≡ 1 → ⊥)
      → page (write_numbers (plain_numbers d)) ≡ faulted (draft_fault d) (got (draft_page d) [])
  unfolding read_services faulted plain_numbers header_numbers write_numbers
  plain_back B z n =
      let bs = write_numbers (plain_numbers d) in
      let o = lead_other bs _ d.header.nodes (number_back d.header.nodes _ B.0) n in
      let v = none_zeros d.services z in
      let w : zeros d.header.nodes ≡ d.services = ap zeros (sym c) ∙ v.0 in
      page_back bs [] 0 0 o.0 (o.1 ∙ ap write_numbers (sym (append-nil (plain_numbers d)))) B
      (ap {B = Read Page} (λ (ss : List ℕ). got (record { says = draft_sheet d; services = ss }) []) w) (λ h. sym v.1)

  -- the form with them
  services_read : Below 268435456 d.services
      → read_services 1 (draft_sheet d) (write_numbers d.services)
      ≡ faulted (first_of (services_fault d.services) (fault 11 (not (no_service d.services)))) (got (draft_page d) [])
  unfolding read_services read_service some_service write_numbers
  services_read B =
      then_more (services_fault d.services) d.services [] (rw (append-nil, c) at (each_back is_service d.services [] B)) (some_service (draft_sheet d)) _ _
      (some (no_service d.services))
    where
      some : (t : Bool) → pick t (refuse 11) (got (draft_page d) []) ≡ faulted (fault 11 (not t)) (got (draft_page d) [])
      some true = pick_faulted 10 false (got (draft_page d) [])
      some false = pick_faulted 10 true (got (draft_page d) [])

  led_back : Below 268435456 (plain_numbers d) → Below 268435456 d.services → (header_fault d.header ≡ 0 → no_service d.services ≡ false)
      → page (write_numbers (with_services (plain_numbers d) d.services)) ≡ faulted (draft_fault d) (got (draft_page d) [])
  unfolding with_services write_numbers write_number write_groups fault
  led_back B C n =
      let o = lead_one (write_numbers (plain_numbers d ++ d.services)) in
      page_back _ d.services 1 _ o.0 o.1 B (services_read C) (λ h. rw (n h) (first_alone (services_fault d.services)))

  -- the whole draft, read: its page, or its first fault
  pub draft_back : Below 268435456 (draft_numbers d) → page (write_numbers (draft_numbers d)) ≡ faulted (draft_fault d) (got (draft_page d) [])
  unfolding draft_numbers with_services
  draft_back = go (no_service d.services && not (eqb d.header.nodes 1)) refl
    where
      go : (t : Bool) → (no_service d.services && not (eqb d.header.nodes 1)) ≡ t
          → Below 268435456 (pick t (plain_numbers d) (with_services (plain_numbers d) d.services))
          → page (write_numbers (pick t (plain_numbers d) (with_services (plain_numbers d) d.services))) ≡ faulted (draft_fault d) (got (draft_page d) [])
      go true e B =
          let p = and_true (no_service d.services) _ e in
          plain_back B p.0 (eqb-false d.header.nodes 1 (not_true _ p.1))
      go false e B =
          let p = below_parts 268435456 (plain_numbers d) d.services B.1 in
          led_back p.0 p.1 (λ h. sym (form_is (no_service d.services) d.header.nodes (header_bounded d.header h).low) ∙ e)

faulted_pick : {A : Type 0} (e : ℕ) (r : Read A) → faulted e r ≡ pick (eqb e 0) r (refuse e)
unfolding faulted
faulted_pick zero r = refl
faulted_pick (suc e) r = let z : eqb (suc e) 0 ≡ false = ne_eqb (suc e) 0 (λ q. omega (arith, q)) in rw z

-- a draft of the lengths that its header says, of numbers that can be written: the reader takes its numbers as the draft's page where the draft has no
-- fault, and else refuses with the first fault
pub judged_alike : (d : Draft) → length d.arcs ≡ 3 * d.header.arcs → length d.marks ≡ d.header.nodes + d.header.arcs
    → length d.services ≡ d.header.nodes → small (draft_numbers d) ≡ true
    → page (write_numbers (draft_numbers d)) ≡ pick (eqb (draft_fault d) 0) (got (draft_page d) []) (refuse (draft_fault d))
judged_alike d a m c e = draft_back d (a, m) c (below_small (draft_numbers d) e) ∙ faulted_pick (draft_fault d) (got (draft_page d) [])
