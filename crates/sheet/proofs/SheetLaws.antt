-- What holds of a sheet that was read: each number passed its test. And what 11, 12 and 13 say of the whole. Assumes nothing.
use Prim.Native.Nat.{ℕ, zero, suc, ◌+◌, ◌≤◌, ◌<◌}
use mathlib.Core.Path.{◌≡◌, refl, sym, ap, ◌∙◌, subst}
use mathlib.Core.Bool.{Bool, true, false}
use mathlib.Core.List.{List, [], ◌∷◌}
use native.Mathlib.Omega.{arith}
use lib.ListN.{length, get_or}
use lib.Dec.{leb}
use borrow.Author.Tests.{eqb-false, ltb-true, leb-true, le-leb, lt-leb}
use Rattle.lists.proofs.TestLaws.{and_true, not_true}
use Rattle.lists.specs.Lists.{pick}
use Rattle.varint.proofs.VarintLaws.{after_got, number_got, got_both, several_first}
use Rattle.varint.specs.Varint.{Read, got, refuse, after, number, several}
use Rattle.walks.specs.declared.arc.Arc.{Arc}
use Rattle.walks.specs.Graph.{Graph, no_arc, tail_of, head_of, weight_of}
use Rattle.sheet.proofs.PageLaws.{served_count}
use Rattle.sheet.specs.Good.{Good, GoodUpTo, ArcUpTo, GoodPage, All}
use Rattle.sheet.specs.declared.Header.{Header}
use Rattle.sheet.specs.Reader.{is_node_count, is_arc_count, is_limit, is_minutes, is_mark, is_service, header_limit, header_target, header_source, header_arcs, read_header, arc_minutes, arc_head, read_arc, read_mark, read_marks, read_arcs, read_sheet, lead, content, read_service, some_service, read_services, read_page, complete, page, meant, taken}
use Rattle.sheet.specs.Lent.{zeros}
use Rattle.sheet.specs.Page.{service_of, served_arc, served, Page, sheet_on, no_service}
use Rattle.sheet.specs.Sheet.{Sheet, mark_of, required}

pub several_got : {A : Type 0} (P : A → Type 0) (f : List ℕ → Read A) → ((bs : List ℕ) (a : A) (rest : List ℕ) → f bs ≡ got a rest → P a)
    → (k : ℕ) (bs : List ℕ) (xs : List A) (rest : List ℕ) → several f k bs ≡ got xs rest → (length xs ≡ k) × All P xs
unfolding several
several_got P f h zero bs xs rest e = let z : xs ≡ [] = cc in rw z (refl, tt)
several_got P f h (suc k) bs xs rest e =
    let s = several_first f k bs xs rest e in
    let i = several_got P f h k s.1 s.2 rest s.4 in
    rw s.5 (ap suc i.0, (h bs s.0 s.1 s.3, i.1))

minutes_got : (n t h : ℕ) → t < n → h < n → (h ≡ t → ⊥) → (bs : List ℕ) (x : Arc) (rest : List ℕ) → arc_minutes t h bs ≡ got x rest → ArcUpTo 65535 n x
unfolding arc_minutes
minutes_got n t h ht hh ne bs x rest e =
    let a = after_got (number 10 is_minutes bs) _ x rest e in
    let b = leb-true a.0 _ (number_got 10 is_minutes bs a.0 a.1 a.2).0 in
    let z : record { tail = t; head = h; weight = a.0 } ≡ x = (got_both (record { tail = t; head = h; weight = a.0 }) x a.1 rest a.3).0 in
    subst (λ (x : Arc). ArcUpTo 65535 n x) z
    (record { tail = ht; head = hh; loopless = ne; weight = omega (arith, b) })

head_got : (n t : ℕ) → t < n → (bs : List ℕ) (x : Arc) (rest : List ℕ) → arc_head n t bs ≡ got x rest → ArcUpTo 65535 n x
unfolding arc_head
head_got n t ht bs x rest e =
    let a = after_got _ _ x rest e in
    let p = and_true _ _ (number_got _ _ _ _ _ a.2).0 in
    minutes_got n t a.0 ht (ltb-true _ _ p.0) (eqb-false _ _ (not_true _ p.1)) a.1 x rest a.3

pub arc_got : (n : ℕ) (bs : List ℕ) (x : Arc) (rest : List ℕ) → read_arc n bs ≡ got x rest → ArcUpTo 65535 n x
unfolding read_arc
arc_got n bs x rest e =
    let a = after_got _ _ x rest e in
    head_got n a.0 (ltb-true _ _ (number_got _ _ _ _ _ a.2).0) a.1 x rest a.3

-- what the five numbers in front say
pub record GoodHeader (h : Header) : Type 0 where
  pub low : 2 ≤ h.nodes
  pub nodes : h.nodes ≤ 64
  pub arcs : h.arcs ≤ 512
  pub source : h.source < h.nodes
  pub target : h.target < h.nodes
  pub apart : h.target ≡ h.source → ⊥
  pub limit : h.limit ≤ 1000000

limit_got : (n m s t : ℕ) → 2 ≤ n → n ≤ 64 → m ≤ 512 → s < n → t < n → (t ≡ s → ⊥) → (bs : List ℕ) (h : Header) (rest : List ℕ)
    → header_limit n m s t bs ≡ got h rest → GoodHeader h
unfolding header_limit
limit_got n m s t h₁ h₂ h₃ h₄ h₅ h₆ bs h rest e =
    let a = after_got (number 8 is_limit bs) _ h rest e in
    let b = leb-true a.0 _ (number_got 8 is_limit bs a.0 a.1 a.2).0 in
    subst (λ (h : Header). GoodHeader h) (got_both (record { nodes = n; arcs = m; source = s; target = t; limit = a.0 }) h a.1 rest a.3).0
    (record {
      low = h₁;
      nodes = h₂;
      arcs = h₃;
      source = h₄;
      target = h₅;
      apart = h₆;
      limit = omega (arith, b);
    })

target_got : (n m s : ℕ) → 2 ≤ n → n ≤ 64 → m ≤ 512 → s < n → (bs : List ℕ) (h : Header) (rest : List ℕ) → header_target n m s bs ≡ got h rest → GoodHeader h
unfolding header_target
target_got n m s h₁ h₂ h₃ h₄ bs h rest e =
    let a = after_got _ _ h rest e in
    let p = and_true _ _ (number_got _ _ _ _ _ a.2).0 in
    limit_got n m s a.0 h₁ h₂ h₃ h₄ (ltb-true _ _ p.0) (eqb-false _ _ (not_true _ p.1)) a.1 h rest a.3

source_got : (n m : ℕ) → 2 ≤ n → n ≤ 64 → m ≤ 512 → (bs : List ℕ) (h : Header) (rest : List ℕ) → header_source n m bs ≡ got h rest → GoodHeader h
unfolding header_source
source_got n m h₁ h₂ h₃ bs h rest e =
    let a = after_got _ _ h rest e in
    target_got n m a.0 h₁ h₂ h₃ (ltb-true _ _ (number_got _ _ _ _ _ a.2).0) a.1 h rest a.3

count_got : (n : ℕ) → 2 ≤ n → n ≤ 64 → (bs : List ℕ) (h : Header) (rest : List ℕ) → header_arcs n bs ≡ got h rest → GoodHeader h
unfolding header_arcs
count_got n h₁ h₂ bs h rest e =
    let a = after_got (number 6 is_arc_count bs) _ h rest e in
    let b = leb-true a.0 _ (number_got 6 is_arc_count bs a.0 a.1 a.2).0 in
    source_got n a.0 h₁ h₂ (omega (arith, b)) a.1 h rest a.3

pub header_good : (bs : List ℕ) (h : Header) (rest : List ℕ) → read_header bs ≡ got h rest → GoodHeader h
unfolding read_header
header_good bs h rest e =
    let a = after_got (number 5 is_node_count bs) _ h rest e in
    let p = and_true _ _ (number_got 5 is_node_count bs a.0 a.1 a.2).0 in
    let l = leb-true _ a.0 p.0 in
    let b = leb-true a.0 _ p.1 in
    count_got a.0 (omega (arith, l)) (omega (arith, b)) a.1 h rest a.3

marks_got : (h : Header) → GoodHeader h → (xs : List Arc) → length xs ≡ h.arcs → All (ArcUpTo 65535 h.nodes) xs → (bs : List ℕ) (S : Sheet) (rest : List ℕ)
    → read_marks h xs bs ≡ got S rest → GoodUpTo 65535 S
unfolding read_marks read_mark
marks_got h H xs c g bs S rest e =
    let G : Graph = record { nodes = h.nodes; arcs = xs } in
    let a = after_got (several read_mark (h.nodes + length xs) bs) (λ ms rest. got (record { graph = G; source = h.source; target = h.target; limit = h.limit; marks = ms }) rest) S rest e in
    let w = several_got (λ x. x ≤ 2) read_mark (λ bs x rest q. leb-true x 2 (number_got 11 is_mark bs x rest q).0) (h.nodes + length xs) bs a.0 a.1 a.2 in
    subst (λ (S : Sheet). GoodUpTo 65535 S) (got_both (record { graph = G; source = h.source; target = h.target; limit = h.limit; marks = a.0 }) S a.1 rest a.3).0
    (record {
      low = H.low;
      nodes = H.nodes;
      arcs = omega (arith, H.arcs);
      source = H.source;
      target = H.target;
      apart = H.apart;
      limit = H.limit;
      arc = g;
      size = w.0;
      mark = w.1;
    })

arcs_got : (h : Header) → GoodHeader h → (bs : List ℕ) (S : Sheet) (rest : List ℕ) → read_arcs h bs ≡ got S rest → GoodUpTo 65535 S
unfolding read_arcs
arcs_got h H bs S rest e =
    let a = after_got _ _ S rest e in
    let w = several_got _ _ (arc_got _) _ _ a.0 a.1 a.2 in
    marks_got h H a.0 w.0 w.1 a.1 S rest a.3

pub sheet_good : (bs : List ℕ) (S : Sheet) (rest : List ℕ) → read_sheet bs ≡ got S rest → GoodUpTo 65535 S
unfolding read_sheet
sheet_good bs S rest e =
    let a = after_got (read_header bs) read_arcs S rest e in
    arcs_got a.0 (header_good bs a.0 a.1 a.2) a.1 S rest a.3

-- the entries of a list by number
pub all_get_d : (P : ℕ → Type 0) (xs : List ℕ) (i : ℕ) → P 0 → All P xs → P (get_or xs i 0)
all_get_d P [] i z a = z
all_get_d P (x ∷ xs) zero z a = a.0
all_get_d P (x ∷ xs) (suc i) z a = all_get_d P xs i z a.1

-- the service minutes of a sheet that was read behind its content
record Behind (S : Sheet) (P : Page) : Type 0 where
  says : S ≡ P.says
  count : length P.services ≡ S.graph.nodes
  service : All (λ x. x ≤ 600) P.services

zeros_low : (n : ℕ) → (length (zeros n) ≡ n) × All (λ x. x ≤ 600) (zeros n)
unfolding zeros
zeros_low zero = (refl, tt)
zeros_low (suc n) = let i = zeros_low n in (ap suc i.0, (omega arith, i.1))

-- service minutes that are all 0 draw 11 behind the last of them
none_refused : (S : Sheet) (ss bs : List ℕ) → no_service ss ≡ true → some_service S ss bs ≡ refuse 11
unfolding some_service
none_refused S ss bs e = rw e

pub some_got : (S : Sheet) (ss bs : List ℕ) (P : Page) (rest : List ℕ) → some_service S ss bs ≡ got P rest
    → (no_service ss ≡ false) × (record { says = S; services = ss } ≡ P) × (bs ≡ rest)
unfolding some_service
some_got S ss bs P rest e = go (no_service ss) refl e
  where
    go : (t : Bool) → no_service ss ≡ t → pick t (refuse 11) (got (record { says = S; services = ss }) bs) ≡ got P rest
        → (no_service ss ≡ false) × (record { says = S; services = ss } ≡ P) × (bs ≡ rest)
    go true p q = absurd (let z : ◌≡◌ {A = ℕ} 0 1 = cc in omega arith)
    go false p q = let z = got_both (record { says = S; services = ss }) P bs rest q in (p, z.0, z.1)

services_got : (k : ℕ) (S : Sheet) (bs : List ℕ) (P : Page) (rest : List ℕ) → read_services k S bs ≡ got P rest → Behind S P
unfolding read_services read_service
services_got zero S bs P rest e =
    let Z : Page = record { says = S; services = zeros S.graph.nodes } in
    let z = zeros_low S.graph.nodes in
    subst (Behind S) (got_both Z P bs rest e).0 (record { says = refl; count = z.0; service = z.1 })
services_got (suc k) S bs P rest e =
    let a = after_got (several read_service S.graph.nodes bs) (some_service S) P rest e in
    let w = several_got (λ x. x ≤ 600) read_service (λ bs x rest q. leb-true x 600 (number_got 11 is_service bs x rest q).0) S.graph.nodes bs a.0 a.1 a.2 in
    subst (Behind S) (some_got S a.0 a.1 P rest a.3).1 (record { says = refl; count = w.0; service = w.1 })

-- what is written and what is meant: a service adds at most 600 to an arc's weight
served_good : (n : ℕ) (ss : List ℕ) → All (λ x. x ≤ 600) ss → (xs : List Arc) → All (ArcUpTo 65535 n) xs → All (ArcUpTo 66135 n) (served ss xs)
unfolding served served_arc service_of
served_good n ss g [] a = tt
served_good n ss g (x ∷ xs) a =
    let s = all_get_d (λ x. x ≤ 600) ss x.head (omega arith) g in
    let x₁ = a.0 in
    (record { tail = x₁.tail; head = x₁.head; loopless = x₁.loopless; weight = omega (arith, x₁.weight, s) }, served_good n ss g xs a.1)

on_good : (P : Page) → GoodUpTo 65535 P.says → All (λ x. x ≤ 600) P.services → Good (sheet_on P)
unfolding sheet_on
on_good P g s = record {
  low = g.low;
  nodes = g.nodes;
  arcs = rw (served_count P.services P.says.graph.arcs) g.arcs;
  source = g.source;
  target = g.target;
  apart = g.apart;
  limit = g.limit;
  arc = served_good P.says.graph.nodes P.services s P.says.graph.arcs g.arc;
  size = rw (served_count P.services P.says.graph.arcs) g.size;
  mark = g.mark;
}

-- the content says what the page says
pub content_says : (bs : List ℕ) (P : Page) (rest : List ℕ) → read_page bs ≡ got P rest → (mid : List ℕ) × (read_sheet (content bs) ≡ got P.says mid)
unfolding read_page
content_says bs P rest e =
    let a = after_got (read_sheet (content bs)) (read_services (lead bs)) P rest e in
    (a.1, a.2 ∙ ap (λ (S : Sheet). got S a.1) (services_got (lead bs) a.0 a.1 P rest a.3).says)

whole_good : (bs : List ℕ) (P : Page) (rest : List ℕ) → read_page bs ≡ got P rest → GoodPage P
unfolding read_page
whole_good bs P rest e =
    let a = after_got (read_sheet (content bs)) (read_services (lead bs)) P rest e in
    let b = services_got (lead bs) a.0 a.1 P rest a.3 in
    let g = subst (GoodUpTo 65535) b.says (sheet_good (content bs) a.0 a.1 a.2) in
    record { says = g; means = on_good P g b.service; count = b.count ∙ ap (λ (S : Sheet). S.graph.nodes) b.says; service = b.service }

-- a page is taken exactly when it is read with nothing left and at most eight items are required
pub record TakenPage (bs : List ℕ) (P : Page) : Type 0 where
  pub whole : read_page bs ≡ got P []
  pub few : length (required (sheet_on P)) ≤ 8

-- bytes that remain draw 12, however many items are required
remain : (P : Page) (b : ℕ) (bs : List ℕ) → complete P (b ∷ bs) ≡ refuse 12
unfolding complete
remain P b bs = refl

complete_got : (P : Page) (bs : List ℕ) (Q : Page) (rest : List ℕ) → complete P bs ≡ got Q rest
    → (P ≡ Q) × (length (required (sheet_on P)) ≤ 8) × (bs ≡ []) × (rest ≡ [])
unfolding complete
complete_got P (b ∷ bs) Q rest e = absurd (let r : refuse 12 ≡ got Q rest = sym (remain P b bs) ∙ e in let z : ◌≡◌ {A = ℕ} 0 1 = cc in omega arith)
complete_got P [] Q rest e = go (leb (length (required (sheet_on P))) 8) refl e
  where
    go : (t : Bool) → leb (length (required (sheet_on P))) 8 ≡ t → pick t (got P []) (refuse 13) ≡ got Q rest
        → (P ≡ Q) × (length (required (sheet_on P)) ≤ 8) × (◌≡◌ {A = List ℕ} [] []) × (rest ≡ [])
    go true p q = (cc, leb-true (length (required (sheet_on P))) 8 p, refl, cc)
    go false p q = absurd (let z : ◌≡◌ {A = ℕ} 0 1 = cc in omega arith)

pub page_got : (bs : List ℕ) (P : Page) (rest : List ℕ) → page bs ≡ got P rest → TakenPage bs P × (rest ≡ [])
unfolding page
page_got bs P rest e =
    let a = after_got (read_page bs) complete P rest e in
    let b = complete_got a.0 a.1 P rest a.3 in
    (record { whole = a.2 ∙ ap (got a.0) b.2 ∙ ap (λ (P : Page). got P []) b.0; few = subst (λ (P : Page). length (required (sheet_on P)) ≤ 8) b.0 b.1 }, b.3)

pub got_page : (bs : List ℕ) (P : Page) → TakenPage bs P → page bs ≡ got P []
unfolding page complete after
got_page bs P T = rw (T.whole, le-leb (length (required (sheet_on P))) 8 T.few)

pub page_good : (bs : List ℕ) (P : Page) (rest : List ℕ) → page bs ≡ got P rest → GoodPage P
page_good bs P rest e = whole_good bs P [] (page_got bs P rest e).0.whole

-- a sheet is taken as what its page means
pub page_of : (bs : List ℕ) (S : Sheet) (rest : List ℕ) → taken bs ≡ got S rest → (P : Page) × (page bs ≡ got P []) × (sheet_on P ≡ S) × (rest ≡ [])
unfolding taken meant
page_of bs S rest e =
    let a = after_got (page bs) meant S rest e in
    let b = got_both (sheet_on a.0) S a.1 rest a.3 in
    let z = (page_got bs a.0 a.1 a.2).1 in
    (a.0, a.2 ∙ ap (got a.0) z, b.0, sym b.1 ∙ z)

pub page_taken : (bs : List ℕ) (P : Page) → page bs ≡ got P [] → taken bs ≡ got (sheet_on P) []
unfolding taken meant after
page_taken bs P e = rw e

-- what holds of a sheet that is taken
pub record Taken (S : Sheet) : Type 0 where
  pub good : Good S
  pub few : length (required S) ≤ 8

pub taken_got : (bs : List ℕ) (S : Sheet) (rest : List ℕ) → taken bs ≡ got S rest → Taken S × (rest ≡ [])
taken_got bs S rest e =
    let p = page_of bs S rest e in
    let t : Taken (sheet_on p.0) = record { good = (page_good bs p.0 [] p.1).means; few = (page_got bs p.0 [] p.1).0.few } in
    (subst (λ (S : Sheet). Taken S) p.2 t, p.3)

pub taken_good : (bs : List ℕ) (S : Sheet) (rest : List ℕ) → taken bs ≡ got S rest → Good S
taken_good bs S rest e = (taken_got bs S rest e).0.good

-- where a 1 leads, service minutes that are all 0 draw 11, whatever stands behind them
pub all_zero : (bs : List ℕ) (S : Sheet) (mid ss rest : List ℕ) → lead bs ≡ 1 → read_sheet (content bs) ≡ got S mid
    → several read_service S.graph.nodes mid ≡ got ss rest → no_service ss ≡ true → taken bs ≡ refuse 11
unfolding taken page read_page read_services after
all_zero bs S mid ss rest l e q z = rw (l, e, q, none_refused S ss rest z)

-- what is left over draws 12; with nothing left, more than eight required items draw 13; both behind a page that was read
pub bytes_remain : (bs : List ℕ) (P : Page) (b : ℕ) (rest : List ℕ) → read_page bs ≡ got P (b ∷ rest) → taken bs ≡ refuse 12
unfolding taken page after
bytes_remain bs P b rest e = rw (e, remain P b rest)

pub too_many : (bs : List ℕ) (P : Page) → read_page bs ≡ got P [] → 8 < length (required (sheet_on P)) → taken bs ≡ refuse 13
unfolding taken page complete after
too_many bs P e h = rw (e, lt-leb (length (required (sheet_on P))) 8 h)

-- the marks by number
pub good_mark : (S : Sheet) → Good S → (i : ℕ) → mark_of S i ≤ 2
unfolding mark_of
good_mark S g i = all_get_d (λ x. x ≤ 2) S.marks i (omega arith) g.mark

-- the arcs by number
all_arcs : (n : ℕ) (xs : List Arc) (l : ℕ) → l < length xs → All (ArcUpTo 66135 n) xs → ArcUpTo 66135 n (get_or xs l no_arc)
all_arcs n [] l h a = absurd (omega arith)
all_arcs n (x ∷ xs) zero h a = a.0
all_arcs n (x ∷ xs) (suc l) h a = all_arcs n xs l (omega arith) a.1

pub good_tail : (S : Sheet) → Good S → (l : ℕ) → l < length S.graph.arcs → tail_of S.graph l < S.graph.nodes
unfolding tail_of
good_tail S g l h = (all_arcs S.graph.nodes S.graph.arcs l h g.arc).tail

pub good_head : (S : Sheet) → Good S → (l : ℕ) → l < length S.graph.arcs → head_of S.graph l < S.graph.nodes
unfolding head_of
good_head S g l h = (all_arcs S.graph.nodes S.graph.arcs l h g.arc).head

pub good_weight : (S : Sheet) → Good S → (l : ℕ) → l < length S.graph.arcs → weight_of S.graph l ≤ 66135
unfolding weight_of
good_weight S g l h = (all_arcs S.graph.nodes S.graph.arcs l h g.arc).weight
