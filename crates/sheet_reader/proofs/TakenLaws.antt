-- Laws of the whole sheet: what its parts say of it, and what a read leaves where it was taken. Assumes nothing.
use Prim.Native.Nat.{ℕ, zero, suc, ◌+◌}
use mathlib.Core.Path.{◌≡◌, refl, ap, sym, ◌∙◌, subst}
use mathlib.Core.List.{List, [], ◌∷◌}
use native.Mathlib.Omega.{arith}
use lib.ListN.{length, drop, take}
use lib.Seq.{take_at}
use mathlib.Core.Bool.{Bool, true, false}
use lib.Dec.{leb}
use Rattle.std.specs.Prelude.{Ok}
use Rattle.lists.specs.Lists.{front, pick}
use Rattle.varint.proofs.VarintLaws.{after_got, got_both}
use Rattle.varint.specs.Varint.{Read, got, refuse, after, several}
use Rattle.walks.specs.declared.arc.Arc.{Arc}
use Rattle.sheet.proofs.PageLaws.{served_count, required_served}
use Rattle.sheet.proofs.SheetLaws.{some_got, content_says, page_got}
use Rattle.sheet.specs.declared.Header.{Header}
use Rattle.sheet.specs.Lent.{zeros}
use Rattle.sheet.specs.Page.{Page, sheet_on}
use Rattle.sheet.specs.Sheet.{Sheet, required, sheet_of, header_of}
use Rattle.sheet.specs.Reader.{read_arc, read_mark, read_arcs, read_marks, read_header, read_sheet, lead, content, read_service, some_service, read_services, read_page, complete, page, meant, taken}
use Rattle.sheet_services.specs.Services.{services_in}
use Rattle.numbers.specs.Begun.{ahead, begun}
use Rattle.numbers.proofs.SeveralLaws.{several_read}
use Rattle.sheet_reader.specs.Answer.{answered, read_behind, read_content, arcs_behind, marks_behind, sheet_behind, services_behind, arcs_begun, marks_begun, services_begun}

-- the arcs, then the marks
module _ (h : Header) (bs : List ℕ) where
  pub arcs_refused : {e : ℕ} → several (read_arc h.nodes) h.arcs bs ≡ refuse e → (read_arcs h bs ≡ refuse e) × (marks_behind h bs ≡ [])
  unfolding after read_arcs marks_behind ahead
  arcs_refused q = (rw q, rw q)

  module _ {rest : List ℕ} (qa : several (read_arc h.nodes) h.arcs bs ≡ got (begun (read_arc h.nodes) h.arcs bs) rest) where
    arc_count : length (begun (read_arc h.nodes) h.arcs bs) ≡ h.arcs
    arc_count = (several_read (read_arc h.nodes) h.arcs bs (begun (read_arc h.nodes) h.arcs bs) rest (sym qa)).0

    pub marks_left : marks_behind h bs ≡ begun read_mark (h.nodes + h.arcs) rest
    unfolding marks_behind ahead
    marks_left = rw qa

    marks_read : read_arcs h bs ≡ after (several read_mark (h.nodes + h.arcs) rest) (λ ms end. got (record { graph = record { nodes = h.nodes; arcs = arcs_behind h bs }; source = h.source; target = h.target; limit = h.limit; marks = ms }) end)
    unfolding after read_arcs read_marks arcs_behind
    marks_read = rw (qa, arc_count)

    pub marks_refused : {e : ℕ} → several read_mark (h.nodes + h.arcs) rest ≡ refuse e → read_arcs h bs ≡ refuse e
    unfolding after
    marks_refused q = marks_read ∙ rw q

    pub lists_read : {end : List ℕ} → several read_mark (h.nodes + h.arcs) rest ≡ got (begun read_mark (h.nodes + h.arcs) rest) end
        → read_arcs h bs ≡ got (sheet_behind h bs) end
    unfolding after
    lists_read q = marks_read ∙ rw (q, marks_left)

-- as many arcs and marks as the header says
lists_count : (h : Header) (bs : List ℕ) {S : Sheet} {end : List ℕ} → read_arcs h bs ≡ got S end
    → (length S.graph.arcs ≡ h.arcs) × (length S.marks ≡ h.nodes + h.arcs)
unfolding read_arcs read_marks
lists_count h bs {S} {end} e =
    let n = h.nodes in
    let f = after_got (several (read_arc n) h.arcs bs) (read_marks h) S end e in
    let xs : List Arc = f.0 in
    let make : List ℕ → Sheet = λ ms. record { graph = record { nodes = n; arcs = xs }; source = h.source; target = h.target; limit = h.limit; marks = ms } in
    let g = after_got (several read_mark (n + length xs) f.1) (λ ms rest. got (make ms) rest) S end f.3 in
    let x = (several_read (read_arc n) h.arcs bs xs f.1 (sym f.2)).0 in
    let m = (several_read read_mark (n + length xs) f.1 g.0 g.1 (sym g.2)).0 in
    subst (λ (S : Sheet). (length S.graph.arcs ≡ h.arcs) × (length S.marks ≡ h.nodes + h.arcs)) (got_both (make g.0) S g.1 end g.3).0 (x, omega (arith, m, x))

-- what stands behind the header
module _ (k : ℕ) (h : Header) (bs : List ℕ) where
  pub lists_refused : {e : ℕ} → read_arcs h bs ≡ refuse e → (read_behind k h bs ≡ refuse e) × (services_behind k h bs ≡ [])
  unfolding after read_behind services_behind ahead
  lists_refused q = (rw q, rw q)

  module _ {end : List ℕ} (q : read_arcs h bs ≡ got (sheet_behind h bs) end) where
    pub services_left : services_behind k h bs ≡ services_in k h.nodes end
    unfolding services_behind ahead
    services_left = rw q

    pub services_refused : {e : ℕ} → read_services k (sheet_behind h bs) end ≡ refuse e → read_behind k h bs ≡ refuse e
    unfolding after read_behind
    services_refused z = rw (q, z)

    -- the required items of the sheet that stands in the arrays
    pub count_held :
        (old₁ : List Arc) (old₂ : List ℕ) {a : List Arc} {b : List ℕ} {r : Bool} → a ≡ front (arcs_behind h bs) old₁ → b ≡ front (marks_behind h bs) old₂
        → r ≡ leb (length (required (sheet_of h (take h.arcs a) (take (h.nodes + h.arcs) b)))) 8
        → r ≡ leb (length (required (sheet_behind h bs))) 8
    count_held old₁ old₂ {a} {b} p m e =
        let c = lists_count h bs q in
        let xs = arcs_behind h bs in
        let x : take h.arcs a ≡ xs = rw p (take_at xs (drop (length xs) old₁) h.arcs c.0) in
        let y : take (h.nodes + h.arcs) b ≡ marks_behind h bs = rw m (take_at (marks_behind h bs) (drop (length (marks_behind h bs)) old₂) (h.nodes + h.arcs) c.1) in
        let w : sheet_of h (take h.arcs a) (take (h.nodes + h.arcs) b) ≡ sheet_behind h bs = rw (x, y) in
        e ∙ ap (λ (S : Sheet). leb (length (required S)) 8) w

    module _ {ss left : List ℕ} (qs : read_services k (sheet_behind h bs) end ≡ got (record { says = sheet_behind h bs; services = ss }) left) where
      abbrev here : Page
      here = record { says = sheet_behind h bs; services = ss }

      all_read : read_behind k h bs ≡ after (complete here left) meant
      unfolding after read_behind
      all_read = rw (q, qs)

      left_over : (left : List ℕ) → (length left ≡ 0 → ⊥) → after (complete here left) meant ≡ refuse 12
      unfolding complete after
      left_over [] n = absurd (n refl)
      left_over (b ∷ bs) n = refl

      pub bytes_left : (length left ≡ 0 → ⊥) → read_behind k h bs ≡ refuse 12
      bytes_left n = all_read ∙ left_over left n

      none_left : (left : List ℕ) → length left ≡ 0 → left ≡ []
      none_left [] e = refl
      none_left (b ∷ bs) e = absurd (omega (arith, e))

      module _ (e : length left ≡ 0) where
        judged_whole : {b : Bool} → b ≡ leb (length (required (sheet_behind h bs))) 8 → read_behind k h bs ≡ after (pick b (got here []) (refuse 13)) meant
        unfolding complete
        judged_whole m = all_read ∙ rw (none_left left e, required_served here, ← m)

        pub too_many : false ≡ leb (length (required (sheet_behind h bs))) 8 → read_behind k h bs ≡ refuse 13
        unfolding after
        too_many m = judged_whole m

        pub all_taken : true ≡ leb (length (required (sheet_behind h bs))) 8 → answered (read_behind k h bs) ≡ Ok h
        unfolding answered header_of after meant sheet_on
        all_taken m =
            let z : header_of (sheet_on here) ≡ h = rw (served_count ss (arcs_behind h bs), (lists_count h bs q).0) in
            ap answered (judged_whole m) ∙ ap Ok z

-- what a read of a content gives and leaves, by its header
module _ (k : ℕ) (cs : List ℕ) where
  pub header_refused : {e : ℕ} → read_header cs ≡ refuse e
      → (read_content k cs ≡ refuse e) × ((arcs_begun cs ≡ []) × ((marks_begun cs ≡ []) × (services_begun k cs ≡ [])))
  unfolding after read_content arcs_begun marks_begun services_begun ahead
  header_refused q = (rw q, (rw q, (rw q, rw q)))

  pub header_read : {h : Header} {bs : List ℕ} → read_header cs ≡ got h bs
      → (read_content k cs ≡ read_behind k h bs)
      × ((arcs_begun cs ≡ arcs_behind h bs) × ((marks_begun cs ≡ marks_behind h bs) × (services_begun k cs ≡ services_behind k h bs)))
  unfolding after read_content arcs_begun marks_begun services_begun ahead
  header_read q = (rw q, (rw q, (rw q, rw q)))

-- a sheet is taken as its content is read
after_behind : (k : ℕ) (r : Read Header) → after (after (after (after r read_arcs) (read_services k)) complete) meant ≡ after r (read_behind k)
unfolding after read_behind
after_behind k (got h bs) = refl
after_behind k (refuse e) = refl

pub taken_content : (s : List ℕ) → taken s ≡ read_content (lead s) (content s)
unfolding taken page read_page read_sheet read_content
taken_content s = after_behind (lead s) (read_header (content s))

pub content_taken : (s : List ℕ) {k : ℕ} {cs : List ℕ} → lead s ≡ k → cs ≡ content s → read_content k cs ≡ taken s
content_taken s e f = rw (← e, f) (sym (taken_content s))

-- a content that says a sheet: the arcs and marks that a read leaves are the sheet's, and what is read behind it is behind them
record Begun (k : ℕ) (cs : List ℕ) (S : Sheet) (mid : List ℕ) : Type 0 where
  arcs : arcs_begun cs ≡ S.graph.arcs
  marks : marks_begun cs ≡ S.marks
  services : services_begun k cs ≡ services_in k S.graph.nodes mid

content_begun : (k : ℕ) (cs : List ℕ) (S : Sheet) (mid : List ℕ) → read_sheet cs ≡ got S mid → Begun k cs S mid
unfolding read_sheet read_arcs read_marks arcs_begun marks_begun services_begun arcs_behind marks_behind services_behind ahead
content_begun k cs S mid e =
    let a = after_got (read_header cs) read_arcs S mid e in
    let h : Header = a.0 in
    let n = h.nodes in
    let f = after_got (several (read_arc n) h.arcs a.1) (read_marks h) S mid a.3 in
    let xs : List Arc = f.0 in
    let make : List ℕ → Sheet = λ ms. record { graph = record { nodes = n; arcs = xs }; source = h.source; target = h.target; limit = h.limit; marks = ms } in
    let g = after_got (several read_mark (n + length xs) f.1) (λ ms rest. got (make ms) rest) S mid f.3 in
    let z : make g.0 ≡ S = (got_both (make g.0) S g.1 mid g.3).0 in
    let x = several_read (read_arc n) h.arcs a.1 xs f.1 (sym f.2) in
    let m = several_read read_mark (n + length xs) f.1 g.0 g.1 (sym g.2) in
    let ms : begun read_mark (n + h.arcs) f.1 ≡ g.0 = ap (λ (i : ℕ). begun read_mark (n + i) f.1) (sym x.0) ∙ m.1 in
    let mine : read_arcs h a.1 ≡ got S mid = a.3 in
    record {
      arcs = rw a.2 (x.1 ∙ ap (λ (T : Sheet). T.graph.arcs) z);
      marks = rw (a.2, f.2) (ms ∙ ap (λ (T : Sheet). T.marks) z);
      services = rw (a.2, mine) (ap (λ (T : Sheet). services_in k T.graph.nodes mid) z);
    }

-- and the service minutes that are left are the page's
services_begun_lem : (k : ℕ) (S : Sheet) (bs : List ℕ) (P : Page) (rest : List ℕ) → read_services k S bs ≡ got P rest → services_in k S.graph.nodes bs ≡ P.services
unfolding read_services services_in
services_begun_lem zero S bs P rest e = ap (λ (P : Page). P.services) (got_both (record { says = S; services = zeros S.graph.nodes }) P bs rest e).0
services_begun_lem (suc k) S bs P rest e =
    let a = after_got (several read_service S.graph.nodes bs) (some_service S) P rest e in
    (several_read read_service S.graph.nodes bs a.0 a.1 (sym a.2)).1 ∙ ap (λ (P : Page). P.services) (some_got S a.0 a.1 P rest a.3).1

-- a taken sheet's arcs, marks and service minutes, as its page says them, are those that a read leaves
pub record Left (s : List ℕ) (P : Page) : Type 0 where
  pub arcs : arcs_begun (content s) ≡ P.says.graph.arcs
  pub marks : marks_begun (content s) ≡ P.says.marks
  pub services : services_begun (lead s) (content s) ≡ P.services

pub taken_begun : (s : List ℕ) (P : Page) → page s ≡ got P [] → Left s P
unfolding read_page
taken_begun s P e =
    let w = (page_got s P [] e).0.whole in
    let a = after_got (read_sheet (content s)) (read_services (lead s)) P [] w in
    let c = content_says s P [] w in
    let same = got_both a.0 P.says a.1 c.0 (sym a.2 ∙ c.1) in
    let b = content_begun (lead s) (content s) P.says c.0 c.1 in
    let q : read_services (lead s) P.says c.0 ≡ got P [] = rw (same.0, same.1) at a.3 in
    record { arcs = b.arcs; marks = b.marks; services = b.services ∙ services_begun_lem (lead s) P.says c.0 P [] q }
