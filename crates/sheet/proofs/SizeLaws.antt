-- A sheet has at most 3,273 bytes: eight for the five numbers in front, five for each of 512 arcs, one for each of 576 marks, in all 3,144; and, where it
-- has service minutes, one for the 1 before them and two for each of 64 nodes. Of both forms one has as many. Assumes nothing.
use Prim.Native.Nat.{ℕ, ◌+◌, ◌*◌, ◌≤◌, ◌<◌}
use mathlib.Core.Path.{◌≡◌, refl, sym, ap, ◌∙◌}
use mathlib.Core.Logic.{◌⊎◌, inl, inr}
use mathlib.Core.Bool.{Bool, true, false, true≢false}
use mathlib.Core.List.{List, [], ◌∷◌, ◌++◌}
use native.Mathlib.Omega.{arith}
use lib.ListN.{length, length-append, replicate}
use lib.Dec.{eqb, leb}
use borrow.Author.Tests.{eqb-true}
use Rattle.lists.specs.Lists.{pick, every}
use Rattle.lists.proofs.Pigeonhole.{Below}
use Rattle.lists.proofs.FrontLaws.{zeros_at}
use Rattle.lists.proofs.RowLaws.{rows_append}
use Rattle.varint.proofs.SizeLaws.{number_byte}
use Rattle.varint.proofs.VarintLaws.{numbers_size}
use Rattle.varint.proofs.WriteLaws.{numbers_rows, number_short}
use Rattle.varint.specs.Varint.{got, write_groups, write_number, write_numbers}
use Rattle.walks.specs.declared.arc.Arc.{Arc}
use Rattle.walks.specs.Flat.{arcs_of, flat}
use Rattle.sheet.proofs.MarkLaws.{unmarked}
use Rattle.sheet.proofs.FaultLaws.{draft_low}
use Rattle.sheet.proofs.SheetLaws.{page_good}
use Rattle.sheet.proofs.WriterLaws.{written_again, faultless_taken, faultless_good}
use Rattle.sheet.specs.Answer.{finished, refused, wrote, fitted}
use Rattle.sheet.specs.Draft.{header_numbers, sheet_numbers, with_services, page_numbers, page_bytes, Draft, page_draft, draft_page}
use Rattle.sheet.specs.Good.{GoodUpTo, ArcUpTo, GoodPage, All}
use Rattle.sheet.specs.Page.{Page, no_service}
use Rattle.sheet.specs.Reader.{page}
use Rattle.sheet.specs.Sheet.{Sheet, header_of, mark_of, is_mandatory}
use Rattle.sheet.specs.Writer.{fault, first_of, header_fault, size_fault, arc_fault, arcs_fault, each_fault, services_fault, required_fault, draft_fault, write_on, sheet_written}

all_below : (b c : ℕ) → b < c → (xs : List ℕ) → All (λ x. x ≤ b) xs → Below c xs
all_below b c l [] g = tt
all_below b c l (x ∷ xs) g = (omega (arith, g.0), all_below b c l xs g.1)

-- numbers below 128 are one byte each, themselves
pub bytes_alone : (xs : List ℕ) → Below 128 xs → write_numbers xs ≡ xs
unfolding write_numbers
bytes_alone [] b = refl
bytes_alone (x ∷ xs) b = rw (number_byte x b.0, bytes_alone xs b.1)

arcs_short : (n : ℕ) → n ≤ 64 → (xs : List Arc) → All (ArcUpTo 65535 n) xs → length (write_numbers (flat xs)) ≤ 5 * length xs
unfolding write_numbers flat
arcs_short n l [] g = omega arith
arcs_short n l (x ∷ xs) g =
    let t = number_short 0 x.tail (omega (arith, g.0.tail)) in
    let h = number_short 0 x.head (omega (arith, g.0.head)) in
    let w = number_short 2 x.weight (omega (arith, g.0.weight)) in
    simp length-append (omega (arith, t, h, w, arcs_short n l xs g.1))

header_short : (S : Sheet) → GoodUpTo 65535 S → length (write_numbers (header_numbers (header_of S))) ≤ 8
unfolding write_numbers header_numbers header_of
header_short S g =
    let n = number_short 0 S.graph.nodes (omega (arith, g.nodes)) in
    let m = number_short 1 (length S.graph.arcs) (omega (arith, g.arcs)) in
    let s = number_short 0 S.source (omega (arith, g.source, g.nodes)) in
    let t = number_short 0 S.target (omega (arith, g.target, g.nodes)) in
    let k = number_short 2 S.limit (omega (arith, g.limit)) in
    simp length-append (omega (arith, n, m, s, t, k))

pub content_short : (S : Sheet) → GoodUpTo 65535 S → length (write_numbers (sheet_numbers S)) ≤ 3144
unfolding sheet_numbers
content_short S g =
    let h = header_numbers (header_of S) in
    let f = flat S.graph.arcs in
    let p : write_numbers (h ++ (f ++ S.marks)) ≡ write_numbers h ++ (write_numbers f ++ write_numbers S.marks) =
    rows_append numbers_rows h (f ++ S.marks) ∙ ap (write_numbers h ++◌) (rows_append numbers_rows f S.marks) in
    let arcs = arcs_short S.graph.nodes g.nodes S.graph.arcs g.arc in
    let marks = ap length (bytes_alone S.marks (all_below 2 128 (omega arith) S.marks g.mark)) in
    rw p (simp length-append (omega (arith, header_short S g, arcs, marks, g.size, g.nodes, g.arcs)))

-- the 1 before the content and the service minutes behind it
pub served_bytes : (xs ss : List ℕ) → write_numbers (with_services xs ss) ≡ 1 ∷ (write_numbers xs ++ write_numbers ss)
unfolding with_services write_numbers
served_bytes xs ss = rw (number_byte 1 (omega arith), rows_append numbers_rows xs ss)

pub served_length : (xs ss : List ℕ) → length (write_numbers (with_services xs ss)) ≡ 1 + length (write_numbers xs) + length (write_numbers ss)
served_length xs ss = rw (served_bytes xs ss) (simp length-append (omega arith))

pub page_size : (P : Page) → GoodPage P → (length (page_bytes P) ≤ 3273) × (no_service P.services ≡ true → length (page_bytes P) ≤ 3144)
unfolding page_bytes page_numbers
page_size P g = go (no_service P.services)
  where
    numbers : List ℕ
    numbers = sheet_numbers P.says

    go : (t : Bool) → let k = length (write_numbers (pick t numbers (with_services numbers P.services))) in (k ≤ 3273) × (t ≡ true → k ≤ 3144)
    go true = let c = content_short P.says g.says in (omega arith, λ e. c)
    go false =
        let services = (numbers_size P.services (all_below 600 16384 (omega arith) P.services g.service)).0 in (
          omega (arith, content_short P.says g.says, served_length numbers P.services, services, g.count, g.says.nodes),
          λ e. absurd (true≢false (sym e)),
        )

-- so every sheet that is taken has at most so many
pub taken_size : (bs : List ℕ) (P : Page) → Below 256 bs → page bs ≡ got P [] → (length bs ≤ 3273) × (no_service P.services ≡ true → length bs ≤ 3144)
taken_size bs P B e = rw (written_again bs P B e).0 at (page_size P (page_good bs P [] e))

-- and so has every sheet that is written; what the writer gives is a number of at most 13, or 19, with such a length
pub written_size : (d : Draft) (out : List ℕ) → (((sheet_written d out).number ≤ 13) ⊎ ((sheet_written d out).number ≡ 19)) × ((sheet_written d out).length ≤ 3273)
unfolding sheet_written write_on wrote fitted
written_size d out = go (eqb (draft_fault d) 0) refl (leb (length (page_bytes (draft_page d))) (length out))
  where
    go : (t : Bool) → eqb (draft_fault d) 0 ≡ t → (u : Bool)
        → let w = wrote (pick t (pick u (finished (page_bytes (draft_page d))) (refused 19)) (refused (draft_fault d))) out in
        ((w.number ≤ 13) ⊎ (w.number ≡ 19)) × (w.length ≤ 3273)
    go true e true = (inl (omega arith), (page_size (draft_page d) (faultless_good d (eqb-true _ 0 e))).0)
    go true e false = (inr refl, omega arith)
    go false e u = (inl (draft_low d), omega arith)

-- a longest sheet: 64 nodes, 512 arcs of 65,535 minutes, a limit of 1,000,000, and c minutes of service at each node
longest : ℕ → Page
longest c = record {
  says = record {
    graph = record { nodes = 64; arcs = replicate 512 (record { tail = 62; head = 63; weight = 65535 }) };
    source = 0;
    target = 1;
    limit = 1000000;
    marks = replicate 576 0;
  };
  services = replicate 64 c;
}

longest_faultless : (c : ℕ) → services_fault (longest c).services ≡ 0 → draft_fault (page_draft (longest c)) ≡ 0
unfolding longest header_of flat draft_fault header_fault size_fault arcs_fault arc_fault each_fault required_fault first_of fault is_mandatory mark_of
longest_faultless c e = let u = unmarked (draft_page (page_draft (longest c))).says (λ i. rw (zeros_at 576 i)) in rw (u, e)

-- a sheet that is taken, of exactly so many bytes, in the form that the test says
abbrev pub Exactly : Bool → ℕ → Type 0
Exactly t k = (bs : List ℕ) × (P : Page) × (page bs ≡ got P []) × (no_service P.services ≡ t) × (length bs ≡ k)

longest_taken : (c : ℕ) {t : Bool} {k : ℕ} → services_fault (longest c).services ≡ 0 → no_service (longest c).services ≡ t
    → length (page_bytes (draft_page (page_draft (longest c)))) ≡ k → Exactly t k
longest_taken c e z l =
    (page_bytes (draft_page (page_draft (longest c))), draft_page (page_draft (longest c)), faultless_taken (page_draft (longest c)) (longest_faultless c e), z, l)

pub longest_plain : Exactly true 3144
unfolding longest page_bytes page_numbers no_service sheet_numbers header_numbers header_of arcs_of flat write_numbers write_number write_groups each_fault fault first_of
longest_plain = longest_taken 0 refl refl refl

pub longest_served : Exactly false 3273
unfolding longest page_bytes page_numbers with_services no_service sheet_numbers header_numbers header_of arcs_of flat write_numbers write_number write_groups each_fault fault first_of
longest_served = longest_taken 600 refl refl refl
