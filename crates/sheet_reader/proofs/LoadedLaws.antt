-- A sheet that was read: its numbers are whole, and they make the sheet that was taken. Assumes nothing.
use Prim.Native.Nat.{ℕ, ◌+◌, ◌≤◌}
use mathlib.Core.Path.{◌≡◌, refl, sym, ap, ◌∙◌, subst}
use mathlib.Core.List.{List, [], ◌∷◌, ◌++◌}
use native.Mathlib.Omega.{arith}
use lib.ListN.{length, take, drop}
use lib.Seq.{take_at}
use Rattle.sheet.specs.declared.Header.{Header}
use Rattle.std.specs.Prelude.{Result, Ok, Err, IfOk}
use Rattle.varint.specs.declared.refusal.Refusal.{Refusal}
use Rattle.sheet_reader.specs.Loaded.{Loaded, LoadedPage}
use Rattle.lists.proofs.FrontLaws.{front_rest}
use Rattle.lists.specs.Lists.{front}
use Rattle.sheet_reader.proofs.TakenLaws.{Left, taken_begun}
use Rattle.sheet_required.specs.Whole.{Whole}
use Rattle.sheet_reader.specs.Answer.{answered, arcs_begun, marks_begun, services_begun, arcs_left}
use Rattle.sheet_services.specs.Services.{Servable}
use Rattle.sheet.proofs.PageLaws.{served_count}
use Rattle.sheet.specs.Good.{Good, GoodPage, ArcUpTo, All}
use Rattle.sheet.specs.Page.{service_of, served, Page, sheet_on}
use Rattle.sheet.proofs.SheetLaws.{all_get_d, page_got, page_good, page_of, page_taken, good_tail, good_head}
use Rattle.sheet.specs.Reader.{lead, content, page, meant, taken}
use Rattle.sheet.specs.Sheet.{Sheet, required, sheet_of, header_of}
use Rattle.varint.specs.Varint.{Read, got, refuse, after}
use Rattle.walks.specs.declared.arc.Arc.{Arc}
use Rattle.walks.specs.Graph.{tail_of, head_of}

-- a sheet that was read is whole
sheet_whole : (S : Sheet) → Good S → length (required S) ≤ 8 → Whole (header_of S) S.graph.arcs S.marks
unfolding header_of tail_of head_of
sheet_whole S g f = record {
  proper = record {
    few = g.nodes;
    marked = omega (arith, g.size);
    tails = good_tail S g;
    heads = good_head S g;
  };
  sized = (refl, g.size);
  few = g.arcs;
  source = g.source;
  target = g.target;
  limit = g.limit;
  good = g;
  eight = f;
}

-- the page of a sheet that a read took, and its header
record Said (sheet : List ℕ) (h : Header) : Type 0 where
  on : Page
  took : page sheet ≡ got on []
  header : h ≡ header_of (sheet_on on)

said : (sheet : List ℕ) (h : Header) → answered (taken sheet) ≡ Ok h → Said sheet h
unfolding answered
said sheet h q = go (taken sheet) refl q
  where
    took_is : (k : Header) → ◌≡◌ {A = Result Header ℕ} (Ok k) (Ok h) → h ≡ k
    took_is k e = cc

    go : (r : Read Sheet) → taken sheet ≡ r → answered r ≡ Ok h → Said sheet h
    go (refuse w) p z = absurd (let y : ◌≡◌ {A = ℕ} 0 1 = cc in omega arith)
    go (got S rest) p z = let o = page_of sheet S rest p in record { on = o.0; took = o.1; header = took_is (header_of S) z ∙ ap header_of (sym o.2) }

-- a read that refused the sheet
pub unsaid : (sheet : List ℕ) (w : ℕ) → taken sheet ≡ refuse w → page sheet ≡ refuse w
unfolding taken meant after
unsaid sheet w q = go (page sheet) q
  where
    go : (r : Read Page) → after r meant ≡ refuse w → r ≡ refuse w
    go (refuse v) z = let y : w ≡ v = cc in rw y
    go (got P rest) z = absurd (let y : ◌≡◌ {A = ℕ} 0 1 = cc in omega arith)

pub unsaid_taken : (sheet : List ℕ) (w : ℕ) → page sheet ≡ refuse w → taken sheet ≡ refuse w
unfolding taken after
unsaid_taken sheet w e = rw e

-- so many numbers that were written over the front
front_taken : {A : Type 0} (xs old : List A) (n : ℕ) → length xs ≡ n → take n (front xs old) ≡ xs
front_taken xs old n e = take_at xs (drop (length xs) old) n e

-- minutes and service minutes of a good page can be added
all_servable : (n : ℕ) (ss : List ℕ) → length ss ≡ n → All (λ x. x ≤ 600) ss → (xs : List Arc) → All (ArcUpTo 65535 n) xs → All (Servable ss) xs
unfolding service_of
all_servable n ss e g [] f = tt
all_servable n ss e g (x ∷ xs) f =
    (record { head = rw e f.0.head; sum = omega (arith, f.0.weight, all_get_d (λ x. x ≤ 600) ss x.head (omega arith) g) }, all_servable n ss e g xs f.1)

module _ (s : List ℕ) (P : Page) (t : page s ≡ got P []) (h : Header) (hs : h ≡ header_of (sheet_on P)) where
  good : GoodPage P
  good = page_good s P [] t

  left : Left s P
  left = taken_begun s P t

  nodes_are : h.nodes ≡ P.says.graph.nodes
  unfolding header_of sheet_on
  nodes_are = ap (λ (k : Header). k.nodes) hs

  arcs_are : h.arcs ≡ length P.says.graph.arcs
  unfolding header_of sheet_on
  arcs_are = ap (λ (k : Header). k.arcs) hs ∙ served_count P.services P.says.graph.arcs

  service_count : length P.services ≡ h.nodes
  service_count = good.count ∙ sym nodes_are

  services_stand : (old services : List ℕ) → services ≡ front (services_begun (lead s) (content s)) old → take h.nodes services ≡ P.services
  services_stand old services v =
      ap (take h.nodes) (v ∙ ap (λ (ss : List ℕ). front ss old) left.services) ∙ front_taken P.services old h.nodes service_count

  -- the arcs before the service minutes were added
  module _ (old arcs : List Arc) (a : arcs ≡ front (arcs_begun (content s)) old) where
    arcs_stand : arcs ≡ front P.says.graph.arcs old
    arcs_stand = a ∙ ap (λ (xs : List Arc). front xs old) left.arcs

    arcs_held : take h.arcs arcs ≡ P.says.graph.arcs
    arcs_held = ap (take h.arcs) arcs_stand ∙ front_taken P.says.graph.arcs old h.arcs (sym arcs_are)

    held_servable : {ss : List ℕ} → ss ≡ P.services → All (Servable ss) (take h.arcs arcs)
    held_servable e =
        rw (e, arcs_held) (all_servable P.says.graph.nodes P.services good.count good.service P.says.graph.arcs good.says.arc)

    -- and behind that
    held_served : {ss : List ℕ} {ys out : List Arc} → ss ≡ P.services → ys ≡ served ss (take h.arcs arcs) → out ≡ ys ++ drop h.arcs arcs
        → out ≡ front (sheet_on P).graph.arcs old
    unfolding sheet_on
    held_served {ss} {ys} {out} e y w =
        let xs = P.says.graph.arcs in
        let zs = served P.services xs in
        let u : ys ≡ zs = rw (e, arcs_held) at y in
        let n : h.arcs ≡ length zs = omega (arith, served_count P.services xs, arcs_are) in
        let d : drop h.arcs arcs ≡ drop (length zs) old =
        ap (drop h.arcs) arcs_stand ∙ front_rest xs old h.arcs (omega (arith, arcs_are)) ∙ ap (λ (i : ℕ). drop i old) n in
        w ∙ ap (◌++ drop h.arcs arcs) u ∙ ap (zs ++◌) d

  arcs_size : length (sheet_on P).graph.arcs ≡ h.arcs
  unfolding header_of
  arcs_size = ap (λ (k : Header). k.arcs) (sym hs)

  marks_size : length (sheet_on P).marks ≡ h.nodes + h.arcs
  unfolding header_of
  marks_size = good.means.size ∙ ap (λ (k : Header). k.nodes + k.arcs) (sym hs)

  marks_left : marks_begun (content s) ≡ (sheet_on P).marks
  unfolding sheet_on
  marks_left = left.marks

  -- what a read leaves in front of the arrays
  stands : (c arcs : List Arc) (d e marks services : List ℕ) → arcs ≡ front (sheet_on P).graph.arcs c → marks ≡ front (marks_begun (content s)) d
      → services ≡ front (services_begun (lead s) (content s)) e
      → LoadedPage s h (take h.arcs arcs) (take (h.nodes + h.arcs) marks) (take h.nodes services)
  unfolding header_of
  stands c arcs d e marks services a m v =
      let S = sheet_on P in
      let x : take h.arcs arcs ≡ S.graph.arcs = ap (take h.arcs) a ∙ front_taken S.graph.arcs c h.arcs arcs_size in
      let y : take (h.nodes + h.arcs) marks ≡ S.marks =
      ap (take (h.nodes + h.arcs)) (m ∙ ap (λ (ms : List ℕ). front ms d) marks_left) ∙ front_taken S.marks d (h.nodes + h.arcs) marks_size in
      let z = services_stand e services v in
      let w = sheet_whole S good.means (page_got s P [] t).0.few in
      record {
        on = P;
        took = t;
        means = sym (rw (x, y) (ap (λ (k : Header). sheet_of k S.graph.arcs S.marks) hs));
        served = sym z;
        whole = rw (x, y) (subst (λ (k : Header). Whole k S.graph.arcs S.marks) (sym hs) w);
        count = rw z service_count;
      }

-- where the sheet was taken: what is asked for before the service minutes are added, and what the arcs are then
module _ (s : List ℕ) (h : Header) (q : answered (taken s) ≡ Ok h) where
  pub sizes_held : (h.nodes ≤ 64) × (h.arcs ≤ 512)
  sizes_held =
      let o = said s h q in
      let g = (page_good s o.on [] o.took).says in
      (omega (arith, nodes_are s o.on o.took h o.header, g.nodes), omega (arith, arcs_are s o.on o.took h o.header, g.arcs))

  module _ (old₁ arcs : List Arc) (old₃ services : List ℕ) (a : arcs ≡ front (arcs_begun (content s)) old₁) (v : services ≡ front (services_begun (lead s) (content s)) old₃) where
    pub can_serve : All (Servable (take h.nodes services)) (take h.arcs arcs)
    can_serve =
        let o = said s h q in
        held_servable s o.on o.took h o.header old₁ arcs a (services_stand s o.on o.took h o.header old₃ services v)

    pub is_served : {ys out : List Arc} → ys ≡ served (take h.nodes services) (take h.arcs arcs) → out ≡ ys ++ drop h.arcs arcs
        → out ≡ front (arcs_left (taken s) (arcs_begun (content s))) old₁
    unfolding arcs_left
    is_served y w =
        let o = said s h q in
        held_served s o.on o.took h o.header old₁ arcs a (services_stand s o.on o.took h o.header old₃ services v) y w
        ∙ ap (λ (r : Read Sheet). front (arcs_left r (arcs_begun (content s))) old₁) (sym (page_taken s o.on o.took))

-- a refused sheet leaves the arcs as they were read
pub none_served : (s : List ℕ) (w : ℕ) (old arcs : List Arc) → taken s ≡ refuse w → arcs ≡ front (arcs_begun (content s)) old
    → arcs ≡ front (arcs_left (taken s) (arcs_begun (content s))) old
unfolding arcs_left
none_served s w old arcs q a = a ∙ ap (λ (r : Read Sheet). front (arcs_left r (arcs_begun (content s))) old) (sym q)

-- what a read leaves, as its callers meet it
pub page_loaded : (s : List ℕ) (c arcs : List Arc) (d e marks services : List ℕ) (h : Header) → answered (taken s) ≡ Ok h → arcs ≡ front (arcs_left (taken s) (arcs_begun (content s))) c
    → marks ≡ front (marks_begun (content s)) d → services ≡ front (services_begun (lead s) (content s)) e
    → LoadedPage s h (take h.arcs arcs) (take (h.nodes + h.arcs) marks) (take h.nodes services)
unfolding arcs_left
page_loaded s c arcs d e marks services h q a m v =
    let o = said s h q in
    stands s o.on o.took h o.header c arcs d e marks services
    (a ∙ ap (λ (r : Read Sheet). front (arcs_left r (arcs_begun (content s))) c) (page_taken s o.on o.took)) m v

pub loaded : {s : List ℕ} {arcs : List Arc} {marks services : List ℕ} {h : Header} → LoadedPage s h arcs marks services → Loaded s h arcs marks
loaded {s} l = record { makes = page_taken s l.on l.took ∙ ap (λ (S : Sheet). got S []) l.means; whole = l.whole }

pub all_loaded : (s : List ℕ) (arcs : List Arc) (marks services : List ℕ) (r : Result Header Refusal)
    → IfOk r (λ h. LoadedPage s h (take h.arcs arcs) (take (h.nodes + h.arcs) marks) (take h.nodes services))
    → IfOk r (λ h. Loaded s h (take h.arcs arcs) (take (h.nodes + h.arcs) marks))
all_loaded s arcs marks services (Ok h) p = loaded p
all_loaded s arcs marks services (Err why) p = p
