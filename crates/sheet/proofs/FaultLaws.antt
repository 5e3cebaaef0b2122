-- A draft without a fault: its lists have the lengths that its header says, and each of its numbers can be written. And no fault is over 13. Assumes
-- nothing.
use Prim.Native.Nat.{ℕ, zero, suc, ◌-◌, ◌*◌, ◌≤◌, ◌<◌}
use mathlib.Core.Path.{◌≡◌, refl}
use mathlib.Core.Bool.{Bool, true, false, not, ◌&&◌}
use mathlib.Core.List.{List, [], ◌∷◌, ◌++◌}
use native.Mathlib.Omega.{arith}
use lib.ListN.{length}
use lib.Dec.{eqb, leb}
use borrow.Author.Tests.{eqb-true, leb-true, ltb-true}
use Rattle.lists.proofs.Pigeonhole.{Below, below_append, below_le}
use Rattle.lists.proofs.TestLaws.{and_true, pick_either}
use Rattle.varint.proofs.WriteLaws.{small_below}
use Rattle.varint.specs.Answer.{small}
use Rattle.sheet.specs.declared.Header.{Header}
use Rattle.sheet.specs.Draft.{header_numbers, with_services, Draft, plain_numbers, draft_numbers, DraftSized}
use Rattle.sheet.specs.Page.{no_service}
use Rattle.sheet.specs.Reader.{is_mark, is_service}
use Rattle.sheet.specs.Writer.{fault, first_of, header_fault, size_fault, arc_fault, arcs_fault, each_fault, required_fault, draft_fault}

pub first_none : (a b : ℕ) → first_of a b ≡ 0 → (a ≡ 0) × (b ≡ 0)
unfolding first_of
first_none zero b e = (refl, e)
first_none (suc a) b e = absurd (omega arith)

pub fault_none : (e : ℕ) (ok : Bool) → fault (suc e) ok ≡ 0 → ok ≡ true
unfolding fault
fault_none e true q = refl
fault_none e false q = absurd (omega (arith, q))

-- a header without a fault
pub record Bounded (h : Header) : Type 0 where
  pub low : 2 ≤ h.nodes
  pub nodes : h.nodes ≤ 64
  pub arcs : h.arcs ≤ 512
  pub source : h.source < h.nodes
  pub target : h.target < h.nodes
  pub limit : h.limit ≤ 1000000

pub header_bounded : (h : Header) → header_fault h ≡ 0 → Bounded h
unfolding header_fault
header_bounded h e =
    let a = first_none _ _ e in
    let b = first_none _ _ a.1 in
    let c = first_none _ _ b.1 in
    let d = first_none _ _ c.1 in
    let n = and_true (leb 2 h.nodes) _ (fault_none 4 _ a.0) in
    record {
      low = leb-true 2 h.nodes n.0;
      nodes = leb-true h.nodes 64 n.1;
      arcs = leb-true h.arcs 512 (fault_none 5 _ b.0);
      source = ltb-true h.source h.nodes (fault_none 6 _ c.0);
      target = ltb-true h.target h.nodes (and_true _ _ (fault_none 6 _ d.0)).0;
      limit = leb-true h.limit 1000000 (fault_none 7 _ d.1);
    }

header_small : {h : Header} → Bounded h → Below 268435456 (header_numbers h)
unfolding header_numbers
header_small b =
    (omega (arith, b.nodes), (omega (arith, b.arcs), (omega (arith, b.source, b.nodes), (omega (arith, b.target, b.nodes), (omega (arith, b.limit), tt)))))

arcs_small : (n : ℕ) → n ≤ 64 → (xs : List ℕ) (m : ℕ) → length xs ≡ 3 * m → arcs_fault n xs ≡ 0 → Below 268435456 xs
unfolding arcs_fault arc_fault
arcs_small n l [] m q e = tt
arcs_small n l (t ∷ []) m q e = absurd (omega arith)
arcs_small n l (t ∷ h ∷ []) m q e = absurd (omega arith)
arcs_small n l (t ∷ h ∷ w ∷ xs) m q e =
    let a = first_none _ _ e in
    let b = first_none _ _ a.0 in
    let c = first_none _ _ b.1 in
    let u : t < n = ltb-true t n (fault_none 8 _ b.0) in
    let v : h < n = ltb-true h n (and_true _ _ (fault_none 8 _ c.0)).0 in
    let k : w ≤ 65535 = leb-true w 65535 (fault_none 9 _ c.1) in
    (omega arith, (omega arith, (omega arith, arcs_small n l xs (m - 1) (omega arith) a.1)))

-- numbers that pass a test one by one, where what passes is below a bound
pub each_below : (c : ℕ) (ok : ℕ → Bool) → ((x : ℕ) → ok x ≡ true → x < c) → (xs : List ℕ) → each_fault ok xs ≡ 0 → Below c xs
unfolding each_fault
each_below c ok l [] e = tt
each_below c ok l (x ∷ xs) e = let a = first_none _ _ e in (l x (fault_none 10 _ a.0), each_below c ok l xs a.1)

-- the 1 before them is small too
served_below : (xs services : List ℕ) → Below 268435456 xs → Below 268435456 services → Below 268435456 (with_services xs services)
unfolding with_services
served_below xs services b c = (omega arith, below_append 268435456 xs services b c)

-- a draft without a fault
pub record Faultless (d : Draft) : Type 0 where
  pub sized : DraftSized d
  pub count : length d.services ≡ d.header.nodes
  pub low : 2 ≤ d.header.nodes
  pub header : Below 268435456 (header_numbers d.header)
  pub arcs : Below 268435456 d.arcs
  pub marks : Below 128 d.marks
  pub services : Below 268435456 d.services
  pub below : Below 268435456 (draft_numbers d)

pub faultless : (d : Draft) → draft_fault d ≡ 0 → Faultless d
unfolding draft_fault size_fault draft_numbers plain_numbers
faultless d e =
    let h = first_none _ _ e in
    let s = first_none _ _ h.1 in
    let a = first_none _ _ s.1 in
    let m = first_none _ _ a.1 in
    let v = first_none _ _ m.1 in
    let z = and_true _ _ (fault_none 2 _ s.0) in
    let y = and_true _ _ z.1 in
    let c = eqb-true _ _ z.0 in
    let B = header_bounded d.header h.0 in
    let header = header_small B in
    let arcs = arcs_small d.header.nodes B.nodes d.arcs d.header.arcs c a.0 in
    let marks = each_below 128 is_mark (λ x t. omega (arith, leb-true x 2 t)) d.marks m.0 in
    let services = each_below 268435456 is_service (λ x t. omega (arith, leb-true x 600 t)) d.services v.0 in
    let lists = below_append 268435456 d.arcs d.marks arcs (below_le 128 268435456 d.marks (omega arith) marks) in
    let plain = below_append 268435456 (header_numbers d.header) (d.arcs ++ d.marks) header lists in
    record {
      sized = (c, eqb-true _ _ y.0);
      count = eqb-true _ _ y.1;
      low = B.low;
      header = header;
      arcs = arcs;
      marks = marks;
      services = services;
      below = pick_either (Below 268435456) (no_service d.services && not (eqb d.header.nodes 1)) (plain_numbers d) _ plain
          (served_below (plain_numbers d) d.services plain services);
    }

-- what is written always has a written form
pub faultless_small : (d : Draft) → draft_fault d ≡ 0 → small (draft_numbers d) ≡ true
faultless_small d e = small_below 268435456 (draft_numbers d) (omega arith) (faultless d e).below

-- no fault is over 13
fault_low : (e : ℕ) (ok : Bool) → e ≤ 13 → fault e ok ≤ 13
unfolding fault
fault_low e true h = omega arith
fault_low e false h = h

first_low : (a b : ℕ) → a ≤ 13 → b ≤ 13 → first_of a b ≤ 13
unfolding first_of
first_low zero b h l = l
first_low (suc a) b h l = h

arcs_low : (n : ℕ) (xs : List ℕ) → arcs_fault n xs ≤ 13
unfolding arcs_fault arc_fault
arcs_low n [] = omega arith
arcs_low n (t ∷ []) = omega arith
arcs_low n (t ∷ h ∷ []) = omega arith
arcs_low n (t ∷ h ∷ w ∷ xs) =
    first_low _ _ (first_low _ _ (fault_low 9 _ (omega arith)) (first_low _ _ (fault_low 9 _ (omega arith)) (fault_low 10 _ (omega arith)))) (arcs_low n xs)

each_low : (ok : ℕ → Bool) (xs : List ℕ) → each_fault ok xs ≤ 13
unfolding each_fault
each_low ok [] = omega arith
each_low ok (x ∷ xs) = first_low _ _ (fault_low 11 _ (omega arith)) (each_low ok xs)

header_low : (h : Header) → header_fault h ≤ 13
unfolding header_fault
header_low h =
    first_low _ _ (fault_low 5 _ (omega arith)) (first_low _ _ (fault_low 6 _ (omega arith))
    (first_low _ _ (fault_low 7 _ (omega arith)) (first_low _ _ (fault_low 7 _ (omega arith)) (fault_low 8 _ (omega arith)))))

pub draft_low : (d : Draft) → draft_fault d ≤ 13
unfolding draft_fault size_fault required_fault
draft_low d =
    first_low _ _ (header_low d.header) (first_low _ _ (fault_low 3 _ (omega arith))
    (first_low _ _ (arcs_low d.header.nodes d.arcs) (first_low _ _ (each_low is_mark d.marks)
    (first_low _ _ (each_low is_service d.services) (fault_low 13 _ (omega arith))))))
