-- A sheet that was read is written again as the bytes that it was read from, in both forms: stage by stage, each number by `number_again`. Several of a kind
-- are for any reader; arcs, marks and service minutes are uses of it. Assumes nothing.
use Prim.Native.Nat.{ℕ, zero, suc, ◌+◌}
use mathlib.Core.Path.{◌≡◌, refl, sym, ap, ◌∙◌, subst}
use mathlib.Core.Bool.{Bool}
use mathlib.Core.List.{List, [], ◌∷◌, ◌++◌, append_assoc, append-nil}
use native.Mathlib.Omega.{arith}
use lib.ListN.{length}
use Rattle.lists.proofs.Pigeonhole.{Below, below_append, below_parts}
use Rattle.lists.proofs.RowLaws.{Rows, rows_append, just, just_rows}
use Rattle.varint.proofs.AgainLaws.{number_again}
use Rattle.varint.proofs.VarintLaws.{after_got, number_got, got_both, several_first}
use Rattle.varint.proofs.WriteLaws.{numbers_rows}
use Rattle.varint.specs.Varint.{Read, got, after, number, several, write_groups, write_number, write_numbers}
use Rattle.walks.specs.declared.arc.Arc.{Arc}
use Rattle.walks.specs.Flat.{flat}
use Rattle.sheet.proofs.BackLaws.{arc_numbers, flat_rows}
use Rattle.sheet.proofs.LeadLaws.{Led, plain, led, led_is}
use Rattle.sheet.proofs.PageLaws.{zeros_none}
use Rattle.sheet.proofs.SheetLaws.{several_got, some_got}
use Rattle.sheet.specs.declared.Header.{Header}
use Rattle.sheet.specs.Draft.{header_numbers, sheet_numbers, with_services, page_numbers}
use Rattle.sheet.specs.Lent.{zeros}
use Rattle.sheet.specs.Page.{Page}
use Rattle.sheet.specs.Reader.{is_node_count, is_arc_count, is_node, is_other, is_limit, is_minutes, is_mark, is_service, header_limit, header_target, header_source, header_arcs, read_header, arc_minutes, arc_head, read_arc, read_mark, read_marks, read_arcs, read_sheet, read_service, some_service, read_services, read_page}
use Rattle.sheet.specs.Sheet.{Sheet, header_of}

-- xs are the numbers at the front of the bytes bs, and `rest` is what is behind them
pub record Numbers (xs bs rest : List ℕ) : Type 0 where
  pub bytes : bs ≡ write_numbers xs ++ rest
  pub small : Below 268435456 xs
  pub below : Below 256 rest

join : {xs ys bs mid rest : List ℕ} → Numbers xs bs mid → Numbers ys mid rest → Numbers (xs ++ ys) bs rest
join {xs} {ys} {bs} {mid} {rest} p q = record {
  bytes = p.bytes ∙ ap (write_numbers xs ++◌) q.bytes ∙ sym (append_assoc (write_numbers xs) (write_numbers ys) rest)
      ∙ ap (◌++ rest) (sym (rows_append numbers_rows xs ys));
  small = below_append 268435456 xs ys p.small q.small;
  below = q.below;
}

-- what f reads has the numbers that g says
abbrev Again : {A : Type 0} → (List ℕ → Read A) → (A → List ℕ) → Type 0
Again {A} f g = (bs : List ℕ) (a : A) (rest : List ℕ) → Below 256 bs → f bs ≡ got a rest → Numbers (g a) bs rest

judged_again : (e : ℕ) (ok : ℕ → Bool) → Again (number e ok) just
unfolding write_numbers
judged_again e ok bs x rest B q =
    let s = number_again bs x rest B (number_got e ok bs x rest q).1 in
    record { bytes = rw append-nil s.0; small = (s.1, tt); below = (below_parts 256 (write_number x) rest (subst (Below 256) s.0 B)).1 }

-- a part, and what is read behind it
after_again : {A C : Type 0} (f : List ℕ → Read A) (g : A → List ℕ) (h : A → List ℕ → Read C) → Again f g
    → (bs : List ℕ) (c : C) (rest : List ℕ) → Below 256 bs → after (f bs) h ≡ got c rest
    → (a : A) × (mid : List ℕ) × (f bs ≡ got a mid) × Numbers (g a) bs mid × (h a mid ≡ got c rest)
after_again f g h F bs c rest B e = let s = after_got (f bs) h c rest e in (s.0, s.1, s.2, F bs s.0 s.1 B s.2, s.3)

several_again : {A : Type 0} (f : List ℕ → Read A) (g : A → List ℕ) (row : List A → List ℕ) → Rows g row → Again f g
    → (k : ℕ) → Again (several f k) row
unfolding several write_numbers
several_again f g row R F zero bs xs rest B e =
    let z : xs ≡ [] = cc in
    let w : bs ≡ rest = cc in
    rw (z, R.empty) (record { bytes = w; small = tt; below = subst (Below 256) w B })
several_again f g row R F (suc k) bs xs rest B e =
    let s = several_first f k bs xs rest e in
    let p = F bs s.0 s.1 B s.3 in
    rw (s.5, R.first) (join p (several_again f g row R F k s.1 s.2 rest p.below s.4))

arc_again : (n : ℕ) → Again (read_arc n) arc_numbers
unfolding read_arc arc_head arc_minutes
arc_again n bs x rest B e =
    let a = after_again (number 9 (is_node n)) just (arc_head n) (judged_again 9 (is_node n)) bs x rest B e in
    let b = after_again (number 9 (is_other n a.0)) just (arc_minutes a.0) (judged_again 9 (is_other n a.0)) a.1 x rest a.3.below a.4 in
    let make : ℕ → Arc = λ w. record { tail = a.0; head = b.0; weight = w } in
    let c = after_again (number 10 is_minutes) just (λ w rest. got (make w) rest) (judged_again 10 is_minutes) b.1 x rest b.3.below b.4 in
    let z = got_both (make c.0) x c.1 rest c.4 in
    subst (λ (x : Arc). Numbers (arc_numbers x) bs rest) z.0 (join a.3 (join b.3 (subst (Numbers (just c.0) b.1) z.1 c.3)))

header_again : Again read_header header_numbers
unfolding read_header header_arcs header_source header_target header_limit header_numbers
header_again bs h rest B e =
    let a = after_again (number 5 is_node_count) just header_arcs (judged_again 5 is_node_count) bs h rest B e in
    let n = a.0 in
    let b = after_again (number 6 is_arc_count) just (header_source n) (judged_again 6 is_arc_count) a.1 h rest a.3.below a.4 in
    let c = after_again (number 7 (is_node n)) just (header_target n b.0) (judged_again 7 (is_node n)) b.1 h rest b.3.below b.4 in
    let s = c.0 in
    let d = after_again (number 7 (is_other n s)) just (header_limit n b.0 s) (judged_again 7 (is_other n s)) c.1 h rest c.3.below c.4 in
    let make : ℕ → Header = λ k. record { nodes = n; arcs = b.0; source = s; target = d.0; limit = k } in
    let k = after_again (number 8 is_limit) just (λ k rest. got (make k) rest) (judged_again 8 is_limit) d.1 h rest d.3.below d.4 in
    let z = got_both (make k.0) h k.1 rest k.4 in
    subst (λ (h : Header). Numbers (header_numbers h) bs rest) z.0
    (join a.3 (join b.3 (join c.3 (join d.3 (subst (Numbers (just k.0) d.1) z.1 k.3)))))

-- the sheet that its parts make
abbrev pub made : Header → List Arc → List ℕ → Sheet
made h xs ms = record { graph = record { nodes = h.nodes; arcs = xs }; source = h.source; target = h.target; limit = h.limit; marks = ms }

made_numbers : (h : Header) (xs : List Arc) (ms : List ℕ) → length xs ≡ h.arcs → header_numbers h ++ (flat xs ++ ms) ≡ sheet_numbers (made h xs ms)
unfolding sheet_numbers header_of header_numbers
made_numbers h xs ms e = rw e

pub sheet_again : (bs : List ℕ) (S : Sheet) (rest : List ℕ) → Below 256 bs → read_sheet bs ≡ got S rest → Numbers (sheet_numbers S) bs rest
unfolding read_sheet read_arcs read_marks read_mark
sheet_again bs S rest B e =
    let a = after_again read_header header_numbers read_arcs header_again bs S rest B e in
    let h = a.0 in
    let n = h.nodes in
    let arcs : Again (several (read_arc n) h.arcs) flat = several_again (read_arc n) arc_numbers flat flat_rows (arc_again n) h.arcs in
    let f = after_again (several (read_arc n) h.arcs) flat (read_marks h) arcs a.1 S rest a.3.below a.4 in
    let xs = f.0 in
    let k = n + length xs in
    let marks : Again (several read_mark k) (λ (ms : List ℕ). ms) = several_again read_mark just (λ (ms : List ℕ). ms) just_rows (judged_again 11 is_mark) k in
    let g = after_again (several read_mark k) (λ (ms : List ℕ). ms) (λ ms rest. got (made h xs ms) rest) marks f.1 S rest f.3.below f.4 in
    let z = got_both (made h xs g.0) S g.1 rest g.4 in
    let m : length xs ≡ h.arcs = (several_got (λ x. Unit {0}) (read_arc n) (λ bs a rest q. tt) h.arcs a.1 xs f.1 f.2).0 in
    let w : Numbers (header_numbers h ++ (flat xs ++ g.0)) bs rest = join a.3 (join f.3 (subst (Numbers g.0 f.1) z.1 g.3)) in
    subst (λ (ns : List ℕ). Numbers ns bs rest) (made_numbers h xs g.0 m ∙ ap sheet_numbers z.0) w

-- a page that was read: its content alone
plain_again : (bs : List ℕ) (P : Page) (rest : List ℕ) → Below 256 bs → after (read_sheet bs) (read_services 0) ≡ got P rest → Numbers (page_numbers P) bs rest
unfolding read_services page_numbers
plain_again bs P rest B e =
    let a = after_again read_sheet sheet_numbers (read_services 0) sheet_again bs P rest B e in
    let Z : Page = record { says = a.0; services = zeros a.0.graph.nodes } in
    let z = got_both Z P a.1 rest a.4 in
    subst (λ (P : Page). Numbers (page_numbers P) bs rest) z.0
    (rw (zeros_none a.0.graph.nodes) (subst (Numbers (sheet_numbers a.0) bs) z.1 a.3))

-- or behind the 1, with the service minutes
led_again : (cs : List ℕ) (P : Page) (rest : List ℕ) → Below 256 cs → after (read_sheet cs) (read_services 1) ≡ got P rest → Numbers (page_numbers P) (1 ∷ cs) rest
unfolding read_services read_service page_numbers with_services write_numbers write_number write_groups
led_again cs P rest B e =
    let a = after_again read_sheet sheet_numbers (read_services 1) sheet_again cs P rest B e in
    let S = a.0 in
    let n = S.graph.nodes in
    let services : Again (several read_service n) (λ (ss : List ℕ). ss) = several_again read_service just (λ (ss : List ℕ). ss) just_rows (judged_again 11 is_service) n in
    let b = after_again (several read_service n) (λ (ss : List ℕ). ss) (some_service S) services a.1 P rest a.3.below a.4 in
    let z = some_got S b.0 b.1 P rest b.4 in
    let one : Numbers (just 1) (1 ∷ cs) cs = record { bytes = refl; small = (omega arith, tt); below = B } in
    subst (λ (P : Page). Numbers (page_numbers P) (1 ∷ cs) rest) z.1
    (rw z.0 (join one (join a.3 (subst (Numbers b.0 a.1) z.2 b.3))))

pub page_again : (bs : List ℕ) (P : Page) (rest : List ℕ) → Below 256 bs → read_page bs ≡ got P rest → Numbers (page_numbers P) bs rest
unfolding read_page
page_again bs P rest B e = go (led_is bs)
  where
    go : Led bs → Numbers (page_numbers P) bs rest
    go (plain l c) = plain_again bs P rest B (rw (l, c) at e)
    go (led cs q l c) =
        rw q (led_again cs P rest (below_parts 256 (just 1) cs (subst (Below 256) q B)).1 (rw (l, c) at e))
