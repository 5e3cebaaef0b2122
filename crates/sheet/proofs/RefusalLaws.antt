-- A number or a sheet that is not taken draws one of 3 to 13. Assumes nothing.
use Prim.Native.Nat.{ℕ, zero, suc, ◌+◌, ◌≤◌}
use mathlib.Core.Path.{◌≡◌}
use mathlib.Core.Logic.{◌⊎◌, inl, inr}
use mathlib.Core.Bool.{Bool, true, ◌&&◌}
use mathlib.Core.List.{List, [], ◌∷◌}
use native.Mathlib.Omega.{arith}
use lib.ListN.{length}
use lib.Dec.{eqb, leb, ltb}
use borrow.Author.Tests.{leb-true}
use Rattle.lists.proofs.MemberLaws.{every_at}
use Rattle.lists.proofs.TestLaws.{and_true, pick_either}
use Rattle.lists.specs.Lists.{member, every}
use Rattle.varint.specs.Varint.{Read, got, refuse, after, last_group, above, read_groups, read_number, judged, number, several}
use Rattle.sheet.specs.declared.Header.{Header}
use Rattle.sheet.specs.Reader.{is_node_count, is_arc_count, is_node, is_other, is_limit, is_minutes, is_mark, is_service, header_limit, header_target, header_source, header_arcs, read_header, arc_minutes, arc_head, read_arc, read_mark, read_marks, read_arcs, read_sheet, lead, content, read_service, some_service, read_services, read_page, complete, page, meant, taken}
use Rattle.sheet.specs.Page.{Page, sheet_on, no_service}
use Rattle.sheet.specs.Sheet.{Sheet, required}

-- the refusals of a sheet
abbrev pub Among : ℕ → Type 0
Among w = (3 ≤ w) × (w ≤ 13)

-- or one of those that an operation has of its own
abbrev pub AmongThese : List ℕ → ℕ → Type 0
AmongThese own w = Among w ⊎ (member w own ≡ true)

-- none of them is 0, and all are at most b
pub these_fit : (own : List ℕ) (b : ℕ) → every (λ w. leb 1 w && leb w b) own ≡ true → 13 ≤ b → {w : ℕ} → AmongThese own w → (1 ≤ w) × (w ≤ b)
these_fit own b h l (inl p) = (omega (arith, p.0), omega (arith, p.1))
these_fit own b h l {w} (inr m) =
    let s = and_true (leb 1 w) (leb w b) (every_at (λ w. leb 1 w && leb w b) own w h m) in (leb-true 1 w s.0, leb-true w b s.1)

-- what is refused, if anything, has the property
abbrev pub Refusing : {A : Type 0} → (ℕ → Type 0) → Read A → Type 0
Refusing P (got a bs) = Unit {0}
Refusing P (refuse w) = P w

pub after_refusing : (P : ℕ → Type 0) {A B : Type 0} (r : Read A) (f : A → List ℕ → Read B) → Refusing P r → ((a : A) (bs : List ℕ) → Refusing P (f a bs))
    → Refusing P (after r f)
unfolding after
after_refusing P (got a bs) f p q = q a bs
after_refusing P (refuse w) f p q = p

-- the property in other words, and of a refusal that is known
refusing_more : (P Q : ℕ → Type 0) {A : Type 0} (r : Read A) → ((w : ℕ) → P w → Q w) → Refusing P r → Refusing Q r
refusing_more P Q (got a bs) h p = tt
refusing_more P Q (refuse w) h p = h w p

pub refusing_is : (P : ℕ → Type 0) {A : Type 0} (r : Read A) (w : ℕ) → Refusing P r → r ≡ refuse w → P w
refusing_is P (got a bs) w p e = absurd (let z : ◌≡◌ {A = ℕ} 0 1 = cc in omega arith)
refusing_is P (refuse v) w p e = let z : v ≡ w = cc in rw z at p

above_refusing : (b : ℕ) (r : Read ℕ) → Refusing Among r → Refusing Among (above b r)
unfolding above
above_refusing b (got x bs) p = tt
above_refusing b (refuse w) p = p

last_refusing : (left b : ℕ) (bs : List ℕ) → Refusing Among (last_group left b bs)
unfolding last_group
last_refusing left b bs = pick_either (Refusing Among) (eqb b 0 && ltb left 3) (refuse 4) (got b bs) (omega arith, omega arith) tt

groups_refusing : (left : ℕ) (bs : List ℕ) → Refusing Among (read_groups left bs)
unfolding read_groups
groups_refusing left [] = (omega arith, omega arith)
groups_refusing zero (b ∷ bs) = pick_either (Refusing Among) (ltb b 128) (last_group zero b bs) (refuse 4) (last_refusing zero b bs) (omega arith, omega arith)
groups_refusing (suc left) (b ∷ bs) =
    pick_either (Refusing Among) (ltb b 128) (last_group (suc left) b bs) (above b (read_groups left bs)) (last_refusing (suc left) b bs)
    (above_refusing b (read_groups left bs) (groups_refusing left bs))

number_refusing : (e : ℕ) (ok : ℕ → Bool) (bs : List ℕ) → Among e → Refusing Among (number e ok bs)
unfolding number read_number judged
number_refusing e ok bs p =
    after_refusing Among (read_number bs) (judged e ok) (groups_refusing 3 bs) (λ x rest. pick_either (Refusing Among) (ok x) (got x rest) (refuse e) tt p)

several_refusing : {A : Type 0} (f : List ℕ → Read A) → ((bs : List ℕ) → Refusing Among (f bs)) → (k : ℕ) (bs : List ℕ) → Refusing Among (several f k bs)
unfolding several
several_refusing f p zero bs = tt
several_refusing f p (suc k) bs =
    after_refusing Among (f bs) (λ a bs₁. after (several f k bs₁) (λ xs bs₂. got (a ∷ xs) bs₂)) (p bs)
    (λ a bs₁. after_refusing Among (several f k bs₁) (λ xs bs₂. got (a ∷ xs) bs₂) (several_refusing f p k bs₁) (λ xs bs₂. tt))

arc_refusing : (n : ℕ) (bs : List ℕ) → Refusing Among (read_arc n bs)
unfolding read_arc arc_head arc_minutes
arc_refusing n bs =
    after_refusing Among (number 9 (is_node n) bs) (arc_head n) (number_refusing 9 (is_node n) bs (omega arith, omega arith))
    (λ t bs₁. after_refusing Among (number 9 (is_other n t) bs₁) (arc_minutes t) (number_refusing 9 (is_other n t) bs₁ (omega arith, omega arith))
    (λ h bs₂. after_refusing Among (number 10 is_minutes bs₂) (λ w rest. got (record { tail = t; head = h; weight = w }) rest)
    (number_refusing 10 is_minutes bs₂ (omega arith, omega arith)) (λ w rest. tt)))

arcs_refusing : (h : Header) (bs : List ℕ) → Refusing Among (read_arcs h bs)
unfolding read_arcs read_marks read_mark
arcs_refusing h bs =
    after_refusing Among (several (read_arc h.nodes) h.arcs bs) (read_marks h) (several_refusing (read_arc h.nodes) (arc_refusing h.nodes) h.arcs bs)
    (λ xs bs₁. after_refusing Among (several read_mark (h.nodes + length xs) bs₁)
    (λ ms rest. got (record { graph = record { nodes = h.nodes; arcs = xs }; source = h.source; target = h.target; limit = h.limit; marks = ms }) rest)
    (several_refusing read_mark (λ bs. number_refusing 11 is_mark bs (omega arith, omega arith)) (h.nodes + length xs) bs₁) (λ ms rest. tt))

header_refusing : (bs : List ℕ) → Refusing Among (read_header bs)
unfolding read_header header_arcs header_source header_target header_limit
header_refusing bs =
    after_refusing Among (number 5 is_node_count bs) header_arcs (number_refusing 5 is_node_count bs (omega arith, omega arith))
    (λ n bs₁. after_refusing Among (number 6 is_arc_count bs₁) (header_source n) (number_refusing 6 is_arc_count bs₁ (omega arith, omega arith))
    (λ m bs₂. after_refusing Among (number 7 (is_node n) bs₂) (header_target n m) (number_refusing 7 (is_node n) bs₂ (omega arith, omega arith))
    (λ s bs₃. after_refusing Among (number 7 (is_other n s) bs₃) (header_limit n m s) (number_refusing 7 (is_other n s) bs₃ (omega arith, omega arith))
    (λ t bs₄. after_refusing Among (number 8 is_limit bs₄) (λ k rest. got (record { nodes = n; arcs = m; source = s; target = t; limit = k }) rest)
    (number_refusing 8 is_limit bs₄ (omega arith, omega arith)) (λ k rest. tt)))))

sheet_refusing : (bs : List ℕ) → Refusing Among (read_sheet bs)
unfolding read_sheet
sheet_refusing bs = after_refusing Among (read_header bs) read_arcs (header_refusing bs) arcs_refusing

services_refusing : (k : ℕ) (S : Sheet) (bs : List ℕ) → Refusing Among (read_services k S bs)
unfolding read_services read_service some_service
services_refusing zero S bs = tt
services_refusing (suc k) S bs =
    after_refusing Among (several read_service S.graph.nodes bs) (some_service S)
    (several_refusing read_service (λ bs. number_refusing 11 is_service bs (omega arith, omega arith)) S.graph.nodes bs)
    (λ ss rest. pick_either (Refusing Among) (no_service ss) (refuse 11) (got (record { says = S; services = ss }) rest) (omega arith, omega arith) tt)

complete_refusing : (P : Page) (bs : List ℕ) → Refusing Among (complete P bs)
unfolding complete
complete_refusing P (b ∷ bs) = (omega arith, omega arith)
complete_refusing P [] = pick_either (Refusing Among) (leb (length (required (sheet_on P))) 8) (got P []) (refuse 13) tt (omega arith, omega arith)

page_refusing : (bs : List ℕ) → Refusing Among (page bs)
unfolding page read_page
page_refusing bs =
    after_refusing Among (read_page bs) complete
    (after_refusing Among (read_sheet (content bs)) (read_services (lead bs)) (sheet_refusing (content bs)) (services_refusing (lead bs))) complete_refusing

taken_refusing : (bs : List ℕ) → Refusing Among (taken bs)
unfolding taken meant
taken_refusing bs = after_refusing Among (page bs) meant (page_refusing bs) (λ P rest. tt)

pub page_refusing_these : (own bs : List ℕ) → Refusing (AmongThese own) (page bs)
page_refusing_these own bs = refusing_more Among (AmongThese own) (page bs) (λ w p. inl p) (page_refusing bs)

pub taken_refusing_these : (own bs : List ℕ) → Refusing (AmongThese own) (taken bs)
taken_refusing_these own bs = refusing_more Among (AmongThese own) (taken bs) (λ w p. inl p) (taken_refusing bs)

pub taken_refuses : (bs : List ℕ) (w : ℕ) → taken bs ≡ refuse w → Among w
taken_refuses bs w e = refusing_is Among (taken bs) w (taken_refusing bs) e

pub number_refuses : (bs : List ℕ) (w : ℕ) → read_number bs ≡ refuse w → Among w
unfolding read_number
number_refuses bs w e = refusing_is Among (read_number bs) w (groups_refusing 3 bs) e
