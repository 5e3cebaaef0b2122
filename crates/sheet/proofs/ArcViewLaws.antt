-- Arc view's bytes are the part of the sheet at their place and read as the arc's three numbers; they are empty exactly where the sheet is refused or
-- has no such arc.
-- Assumes nothing.
use Prim.Native.Nat.{ℕ, zero, suc, ◌+◌, ◌-◌, ◌*◌, ◌≤◌, ◌<◌}
use mathlib.Core.Path.{◌≡◌, refl, sym, ap, ◌∙◌, subst}
use mathlib.Core.Logic.{◌↔◌}
use mathlib.Core.Bool.{Bool, true, false}
use mathlib.Core.List.{List, [], ◌++◌, append-nil, append_assoc}
use native.Mathlib.Omega.{arith}
use lib.ListN.{length, get_or, take, length-append}
use lib.Seq.{take_at}
use lib.Dec.{ltb}
use borrow.Author.Tests.{lt-ltb, le-ltb, ltb-true, ltb-false}
use Rattle.varint.proofs.VarintLaws.{Front, number_got, judged_front, after_front, after_got, number_front, got_both, several_first}
use Rattle.varint.specs.Varint.{Read, got, after, read_number, number, several, read_groups, refuse}
use Rattle.walks.specs.declared.arc.Arc.{Arc}
use Rattle.walks.specs.Graph.{Graph, no_arc}
use Rattle.sheet.proofs.PageLaws.{count_on}
use Rattle.sheet.proofs.SheetLaws.{several_got, content_says, page_got, page_of, page_taken}
use Rattle.sheet.specs.ArcView.{bytes_of, for_arc, arc_view, place_of}
use Rattle.sheet.specs.declared.Header.{Header}
use Rattle.sheet.specs.Reader.{is_node_count, is_arc_count, is_node, is_other, is_limit, is_minutes, header_limit, header_target, header_source, header_arcs, read_header, arc_minutes, arc_head, read_arc, read_mark, read_marks, read_arcs, read_sheet, rest_of, past, lead, content, page, taken}
use Rattle.sheet.specs.Page.{Page, sheet_on}
use Rattle.sheet.specs.Sheet.{Sheet}

-- after one number
number_past : (e : ℕ) (ok : ℕ → Bool) (bs : List ℕ) (x : ℕ) (rest : List ℕ) → number e ok bs ≡ got x rest → rest_of (read_number bs) ≡ rest
unfolding rest_of
number_past e ok bs x rest q = rw (number_got e ok bs x rest q).1

past_add : (j k : ℕ) (bs : List ℕ) → past (j + k) bs ≡ past k (past j bs)
unfolding past
past_add zero k bs = let e : 0 + k ≡ k = omega arith in ap (λ (i : ℕ). past i bs) e
past_add (suc j) k bs = let e : suc j + k ≡ suc (j + k) = omega arith in ap (λ (i : ℕ). past i bs) e ∙ past_add j k (rest_of (read_number bs))

-- the arc's three numbers, one by one
record Parts (n : ℕ) (bs : List ℕ) (x : Arc) (rest : List ℕ) : Type 0 where
  front : Front (read_arc n) bs x rest
  ends : past 3 bs ≡ rest

arc_parts : (n : ℕ) (bs : List ℕ) (x : Arc) (rest : List ℕ) → read_arc n bs ≡ got x rest → Parts n bs x rest
unfolding read_arc arc_head arc_minutes past
arc_parts n bs x rest e =
    let a = after_got (number 9 (is_node n) bs) (arc_head n) x rest e in
    let b = after_got (number 9 (is_other n a.0) a.1) (arc_minutes a.0) x rest a.3 in
    let build : ℕ → List ℕ → Read Arc = λ w rest. got (record { tail = a.0; head = b.0; weight = w }) rest in
    let c = after_got (number 10 is_minutes b.1) build x rest b.3 in
    let z = got_both (record { tail = a.0; head = b.0; weight = c.0 }) x c.1 rest c.3 in
    let last : Front (build c.0) c.1 x rest = record { bytes = []; parts = z.1; again = λ t. ap (λ (y : Arc). got y t) z.0 } in
    record {
      front =
          after_front (number 9 (is_node n)) (arc_head n) bs a.0 a.1 x rest (judged_front 9 (is_node n) bs a.0 a.1 a.2)
          (after_front (number 9 (is_other n a.0)) (arc_minutes a.0) a.1 b.0 b.1 x rest
          (judged_front 9 (is_other n a.0) a.1 b.0 b.1 b.2)
          (after_front (number 10 is_minutes) build b.1 c.0 c.1 x rest (judged_front 10 is_minutes b.1 c.0 c.1 c.2) last));
      ends =
          rw (number_past 9 (is_node n) bs a.0 a.1 a.2, number_past 9 (is_other n a.0) a.1 b.0 b.1 b.2, number_past 10 is_minutes b.1 c.0 c.1 c.2)
          z.1;
    }

-- arc l of a row of arcs stands after three numbers for each earlier one
arc_at : (n m l : ℕ) (bs : List ℕ) (xs : List Arc) (rest : List ℕ) → l < m → several (read_arc n) m bs ≡ got xs rest
    → read_arc n (past (3 * l) bs) ≡ got (get_or xs l no_arc) (past (3 + 3 * l) bs)
unfolding past
arc_at n zero l bs xs rest h e = absurd (omega arith)
arc_at n (suc m) zero bs xs rest h e =
    let s = several_first (read_arc n) m bs xs rest e in
    s.3 ∙ ap (got s.0) (sym (arc_parts n bs s.0 s.1 s.3).ends) ∙ ap (λ (zs : List Arc). got (get_or zs 0 no_arc) (past 3 bs)) (sym s.5)
arc_at n (suc m) (suc l) bs xs rest h e =
    let s = several_first (read_arc n) m bs xs rest e in
    let c : past 3 bs ≡ s.1 = (arc_parts n bs s.0 s.1 s.3).ends in
    let j : 3 * suc l ≡ 3 + 3 * l = omega arith in
    let u : past (3 * suc l) bs ≡ past (3 * l) s.1 = ap (λ (k : ℕ). past k bs) j ∙ past_add 3 (3 * l) bs ∙ ap (past (3 * l)) c in
    let v : past (3 + 3 * suc l) bs ≡ past (3 + 3 * l) s.1 = ap (λ (k : ℕ). past (3 + k) bs) j ∙ past_add 3 (3 + 3 * l) bs ∙ ap (past (3 + 3 * l)) c in
    ap (read_arc n) u ∙ arc_at n m l s.1 s.2 rest (omega arith) s.4 ∙ ap (λ (zs : List Arc). got (get_or zs (suc l) no_arc) (past (3 + 3 * l) s.1)) (sym s.5)
    ∙ ap (got (get_or xs (suc l) no_arc)) (sym v)

-- the five numbers in front
header_past : (bs : List ℕ) (h : Header) (rest : List ℕ) → read_header bs ≡ got h rest → past 5 bs ≡ rest
unfolding read_header header_arcs header_source header_target header_limit past
header_past bs h rest e =
    let a = after_got (number 5 is_node_count bs) header_arcs h rest e in
    let b = after_got (number 6 is_arc_count a.1) (header_source a.0) h rest a.3 in
    let c = after_got (number 7 (is_node a.0) b.1) (header_target a.0 b.0) h rest b.3 in
    let d = after_got (number 7 (is_other a.0 c.0) c.1) (header_limit a.0 b.0 c.0) h rest c.3 in
    let k = after_got (number 8 is_limit d.1) (λ k rest. got (record { nodes = a.0; arcs = b.0; source = c.0; target = d.0; limit = k }) rest) h rest d.3 in
    let p : past 5 bs ≡ k.1 =
    rw (number_past 5 is_node_count bs a.0 a.1 a.2, number_past 6 is_arc_count a.1 b.0 b.1 b.2, number_past 7 (is_node a.0) b.1 c.0 c.1 c.2, number_past 7 (is_other a.0 c.0) c.1 d.0 d.1 d.2, number_past 8 is_limit d.1 k.0 k.1 k.2) in
    p ∙ (got_both (record { nodes = a.0; arcs = b.0; source = c.0; target = d.0; limit = k.0 }) h k.1 rest k.3).1

-- the leg section: after them
section : (bs : List ℕ) (S : Sheet) (rest : List ℕ) → read_sheet bs ≡ got S rest
    → (mid : List ℕ) × (several (read_arc S.graph.nodes) (length S.graph.arcs) (past 5 bs) ≡ got S.graph.arcs mid)
unfolding read_sheet read_arcs read_marks
section bs S rest e =
    let a = after_got (read_header bs) read_arcs S rest e in
    let h : Header = a.0 in
    let f = after_got (several (read_arc h.nodes) h.arcs a.1) (read_marks h) S rest a.3 in
    let G : Graph = record { nodes = h.nodes; arcs = f.0 } in
    let g = after_got (several read_mark (h.nodes + length f.0) f.1) (λ ms rest. got (record { graph = G; source = h.source; target = h.target; limit = h.limit; marks = ms }) rest) S rest f.3 in
    let z : G ≡ S.graph = ap (λ (S : Sheet). S.graph) (got_both (record { graph = G; source = h.source; target = h.target; limit = h.limit; marks = g.0 }) S g.1 rest g.3).0 in
    let w : length f.0 ≡ h.arcs = (several_got (λ x. Unit {0}) (read_arc h.nodes) (λ bs a rest q. tt) h.arcs a.1 f.0 f.1 f.2).0 in
    let p : past 5 bs ≡ a.1 = header_past bs h a.1 a.2 in
    (f.1, subst (λ (G : Graph). several (read_arc G.nodes) (length G.arcs) (past 5 bs) ≡ got G.arcs f.1) z (rw (p, w) f.2))

-- what a view of a taken sheet shows: the arc's three numbers as they are written
pub record Viewed (bs : List ℕ) (P : Page) (l : ℕ) : Type 0 where
  pub earlier : List ℕ
  pub later : List ℕ
  pub part : bs ≡ earlier ++ (arc_view bs l ++ later)
  pub place : length earlier ≡ place_of bs l
  pub reads : read_arc P.says.graph.nodes (arc_view bs l) ≡ got (get_or P.says.graph.arcs l no_arc) []

-- what k numbers leave is the end of the list
past_end : (k : ℕ) (bs : List ℕ) → (e : List ℕ) × (bs ≡ e ++ past k bs)
unfolding past rest_of
past_end zero bs = ([], refl)
past_end (suc k) bs = go (read_number bs) refl (past_end k)
  where
    go : (r : Read ℕ) → read_number bs ≡ r → ((cs : List ℕ) → (e : List ℕ) × (cs ≡ e ++ past k cs)) → (e : List ℕ) × (bs ≡ e ++ past k (rest_of r))
    go (got x rest) q ih =
        let f = number_front bs x rest q in
        let i = ih rest in
        (f.bytes ++ i.0, f.parts ∙ ap (f.bytes ++◌) i.1 ∙ sym (append_assoc f.bytes i.0 (past k rest)))
    go (refuse w) q ih =
        let i = ih [] in
        (bs ++ i.0, sym (append-nil bs) ∙ ap (bs ++◌) i.1 ∙ sym (append_assoc bs i.0 (past k [])))

-- the bytes of an arc at the front
front_bytes : (n : ℕ) (bs : List ℕ) (x : Arc) (rest : List ℕ) (p : Parts n bs x rest) → bytes_of 3 bs ≡ p.front.bytes
unfolding bytes_of
front_bytes n bs x rest p =
    let e = p.front.parts in
    let c : length bs - length rest ≡ length p.front.bytes = omega (arith, simp length-append at (ap length e)) in
    rw (p.ends, c) (ap (take (length p.front.bytes)) e ∙ take_at p.front.bytes rest (length p.front.bytes) refl)

has_arc : {A : Type 0} (bs : List ℕ) (P : Page) (l : ℕ) (x y : A) → page bs ≡ got P [] → l < length P.says.graph.arcs → for_arc (taken bs) l x y ≡ x
unfolding for_arc
has_arc bs P l x y e h =
    let k : l < length (sheet_on P).graph.arcs = rw (count_on P) h in
    rw (page_taken bs P e, lt-ltb l (length (sheet_on P).graph.arcs) k)

-- no arc is read from nothing
nothing : (n : ℕ) (x : Arc) → read_arc n [] ≡ got x [] → ⊥
unfolding read_arc number read_number read_groups after
nothing n x e = let z : ◌≡◌ {A = ℕ} 0 1 = cc in omega arith

-- the view of an arc of a taken sheet is a part of the sheet, and reads as the arc's three numbers
pub view_reads : (bs : List ℕ) (P : Page) (l : ℕ) → page bs ≡ got P [] → l < length P.says.graph.arcs → Viewed bs P l
unfolding arc_view place_of content
view_reads bs P l t h =
    let n = P.says.graph.nodes in
    let xs = P.says.graph.arcs in
    let x = get_or xs l no_arc in
    let cs = content bs in
    let c = content_says bs P [] (page_got bs P [] t).0.whole in
    let s = section cs P.says c.0 c.1 in
    let here = past (5 + 3 * l) cs in
    let behind = past (3 + 3 * l) (past 5 cs) in
    let u : past (3 * l) (past 5 cs) ≡ here = sym (past_add 5 (3 * l) cs) in
    let q : read_arc n here ≡ got x behind = ap (read_arc n) (sym u) ∙ arc_at n (length xs) l (past 5 cs) xs s.0 h s.1 in
    let p = arc_parts n here x behind q in
    let v : arc_view bs l ≡ p.front.bytes = has_arc bs P l (bytes_of 3 here) [] t h ∙ front_bytes n here x behind p in
    let e = past_end (lead bs + (5 + 3 * l)) bs in
    let w : bs ≡ e.0 ++ here = e.1 ∙ ap (e.0 ++◌) (past_add (lead bs) (5 + 3 * l) bs) in
    let k : length e.0 ≡ length bs - length here = omega (arith, simp length-append at (ap length w)) in
    record {
      earlier = e.0;
      later = behind;
      part = w ∙ ap (e.0 ++◌) (p.front.parts ∙ ap (◌++ behind) (sym v));
      place = k ∙ sym (has_arc bs P l (length bs - length here) 0 t h);
      reads = ap (read_arc n) (v ∙ sym (append-nil p.front.bytes)) ∙ p.front.again [];
    }

-- empty exactly when the sheet draws 3 to 13 or there is no such arc
pub view_empty : (bs : List ℕ) (l : ℕ) → (arc_view bs l ≡ []) ↔ ((P : Page) → page bs ≡ got P [] → length P.says.graph.arcs ≤ l)
unfolding arc_view for_arc
view_empty bs l = (λ e P t. forth e P t (ltb l (length P.says.graph.arcs)) refl, λ h. back (taken bs) refl h)
  where
    forth : arc_view bs l ≡ [] → (P : Page) → page bs ≡ got P [] → (t : Bool) → ltb l (length P.says.graph.arcs) ≡ t → length P.says.graph.arcs ≤ l
    forth e P t true q =
        absurd (nothing P.says.graph.nodes (get_or P.says.graph.arcs l no_arc) (rw e at (view_reads bs P l t (ltb-true l (length P.says.graph.arcs) q)).reads))
    forth e P t false q = ltb-false l (length P.says.graph.arcs) q

    back : (r : Read Sheet) → taken bs ≡ r → ((P : Page) → page bs ≡ got P [] → length P.says.graph.arcs ≤ l)
        → for_arc r l (bytes_of 3 (past (5 + 3 * l) (content bs))) [] ≡ []
    back (refuse e) q h = refl
    back (got S rest) q h =
        let p = page_of bs S rest q in
        let k : length S.graph.arcs ≤ l = subst (λ (S : Sheet). length S.graph.arcs ≤ l) p.2 (rw (count_on p.0) (h p.0 p.1)) in
        rw (le-ltb l (length S.graph.arcs) k)
