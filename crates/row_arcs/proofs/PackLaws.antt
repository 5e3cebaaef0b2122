-- The open arcs in one list: arcs are looked at one after the other, and those that are open are put behind the others. Assumes nothing.
use Prim.Native.Nat.{ℕ, zero, suc, ◌+◌, ◌≤◌, ◌<◌}
use mathlib.Core.Path.{◌≡◌, refl, sym, ap, ◌∙◌}
use mathlib.Core.Bool.{Bool, true, false, true≢false}
use mathlib.Core.List.{List, [], ◌∷◌, ◌++◌, append-nil}
use native.Mathlib.Omega.{arith}
use native.Mathlib.Numerals.{add-one}
use native.Mathlib.Decide.{ℕ_discrete}
use lib.ListN.{length, get_or, set, take, length-append}
use lib.Seq.{get_or-take, get_or-set_same, get_or-set_other, length-take-le, take_at}
use Rattle.lists.specs.Lists.{pick, front, Put}
use Rattle.lists.proofs.FrontLaws.{length_front, push_at}
use Rattle.row_arcs.specs.OpenArcs.{open_arc, open_to, open_arcs}
use Rattle.rows.proofs.ArcLaws.{same_arcs, arc_same}
use Rattle.walks.specs.declared.arc.Arc.{Arc}
use Rattle.walks.specs.Graph.{no_arc}
use Rattle.rows.specs.Net.{Net, net_of, closed, count, arc_count, arc_at, head_at, Proper, Joins, Open, SameArc, PackedTo, Packed}

pub pack_begun : (N : Net) (xs : List Arc) → PackedTo N 0 xs 0
pack_begun N xs = record { all = λ i h. absurd (omega arith); only = λ j h. absurd (omega arith) }

-- what was packed, once other arcs are looked at or the marks are others
module _ {n : ℕ} {xs : List Arc} {ms ms' : List ℕ} {m m' : ℕ} {ps : List Arc} {c : ℕ} (P : PackedTo (net_of n xs ms) m ps c)
    (stays : (i : ℕ) → i < m → Open (net_of n xs ms) i → (i < m') × Open (net_of n xs ms') i) where
  -- no other arc is open
  pub pack_left : ((i : ℕ) → i < m' → Open (net_of n xs ms') i → (i < m) × Open (net_of n xs ms) i) → PackedTo (net_of n xs ms') m' ps c
  pack_left was = record {
    all = λ i h o.
        let w = was i h o in
        let t = P.all i w.0 w.1 in
        (t.0, t.1, record { tail = t.2.tail; head = t.2.head; weight = t.2.weight });
    only = λ j h.
        let t = P.only j h in
        let s = stays t.0 t.1 t.2 in
        (t.0, s.0, s.1, record { tail = t.3.tail; head = t.3.head; weight = t.3.weight });
  }

  -- arc l is too, and is put behind the others
  pub pack_put : (l : ℕ) → c < length ps → l < m' → Open (net_of n xs ms') l
      → ((i : ℕ) → i < m' → (i ≡ l → ⊥) → Open (net_of n xs ms') i → (i < m) × Open (net_of n xs ms) i)
      → PackedTo (net_of n xs ms') m' (set ps c (get_or xs l no_arc)) (c + 1)
  pack_put l room below op was = record { all = λ i h o. all i (ℕ_discrete i l) h o; only = λ j h. only j (ℕ_discrete j c) h }
    where
      more : List Arc
      more = set ps c (get_or xs l no_arc)

      kept : (i j : ℕ) → j < c → SameArc (net_of n xs ms) i ps j → SameArc (net_of n xs ms') i more j
      kept i j h s = same s (get_or-set_other ps c j (get_or xs l no_arc) no_arc (λ e. omega arith))
        where
          same : SameArc (net_of n xs ms) i ps j → get_or more j no_arc ≡ get_or ps j no_arc → SameArc (net_of n xs ms') i more j
          same s e = record { tail = ap (λ (x : Arc). x.tail) e ∙ s.tail; head = ap (λ (x : Arc). x.head) e ∙ s.head; weight = ap (λ (x : Arc). x.weight) e ∙ s.weight }

      new : SameArc (net_of n xs ms') l more c
      new = arc_same (get_or-set_same ps c (get_or xs l no_arc) no_arc room)

      all : (i : ℕ) → Dec (i ≡ l) → i < m' → Open (net_of n xs ms') i → (j : ℕ) × (j < c + 1) × SameArc (net_of n xs ms') i more j
      all i (yes q) h o = (c, omega arith, rw q new)
      all i (no q) h o =
          let w = was i h q o in
          let t = P.all i w.0 w.1 in
          (t.0, omega (arith, t.1), kept i t.0 t.1 t.2)

      only : (j : ℕ) → Dec (j ≡ c) → j < c + 1 → (i : ℕ) × (i < m') × Open (net_of n xs ms') i × SameArc (net_of n xs ms') i more j
      only j (yes q) h = (l, below, op, rw q new)
      only j (no q) h =
          let t = P.only j (omega arith) in
          let s = stays t.0 t.1 t.2 in
          (t.0, s.0, s.1, kept t.0 j (omega arith) t.3)

-- one arc more is looked at: one that is not open is left out, an open one is put behind the others
pub pack_none : {N : Net} {n : ℕ} {xs : List Arc} {c : ℕ} → (Open N n → ⊥) → PackedTo N n xs c → PackedTo N (n + 1) xs c
pack_none {N} {n} x P = pack_left P (λ i h o. (omega arith, o)) (λ i h o. was i (ℕ_discrete i n) h o)
  where
    was : (i : ℕ) → Dec (i ≡ n) → i < n + 1 → Open N i → (i < n) × Open N i
    was i (yes q) h o = absurd (x (rw q at o))
    was i (no q) h o = (omega arith, o)

pub pack_one : (N : Net) (n : ℕ) (xs : List Arc) (c : ℕ) → c < length xs → Open N n → PackedTo N n xs c
    → PackedTo N (n + 1) (set xs c (arc_at N n)) (c + 1)
pack_one N n xs c room op P = pack_put P (λ i h o. (omega arith, o)) n room (omega arith) op (λ i h q o. (omega arith, o))

-- a list that has the same numbers
pub pack_same : {N : Net} {n : ℕ} {xs ys : List Arc} {c : ℕ} → ((k : ℕ) → k < c → get_or ys k no_arc ≡ get_or xs k no_arc) → PackedTo N n xs c → PackedTo N n ys c
pack_same {N} {n} {xs} {ys} {c} e P = record {
  all = λ i h o. let t = P.all i h o in (t.0, t.1, same i t.0 t.1 t.2);
  only = λ j h. let t = P.only j h in (t.0, t.1, t.2, same t.0 j h t.3);
}
  where
    same : (i j : ℕ) → j < c → SameArc N i xs j → SameArc N i ys j
    same i j h s = same_arcs (e j h) s

-- the first c arcs of a list alone: all arcs looked at, and the other way round
many : (xs : List Arc) (c : ℕ) → c ≤ length xs → arc_count (take c xs) ≡ c
many xs c l = length-take-le c xs l

pub pack_done : {N : Net} {xs : List Arc} {c n : ℕ} → c ≤ length xs → n ≡ count N → PackedTo N n xs c → Packed N (take c xs)
pack_done {N} {xs} {c} l q P = rw (many xs c l, ← q) (pack_same (λ k h. get_or-take c xs k no_arc h) P)

pub packed_to : {N : Net} {xs : List Arc} {c : ℕ} → c ≤ length xs → Packed N (take c xs) → PackedTo N (count N) xs c
packed_to {N} {xs} {c} l P = pack_same (λ k h. sym (get_or-take c xs k no_arc h)) (rw (many xs c l) at P)

-- the open arcs join nodes
pub packed_joins : {N : Net} {xs : List Arc} → Proper N → Packed N xs → Joins 64 xs
packed_joins {N} {xs} p P j h =
    let t = P.only j h in
    (omega (arith, t.3.tail, p.tails t.0 t.1, p.few), omega (arith, t.3.head, p.heads t.0 t.1, p.few))

-- no arc, and one stored behind the numbers in front
pub put_nothing : (xs d out ys : List Arc) (n : ℕ) → ys ≡ [] → Put xs d out n → Put (xs ++ ys) d out n
put_nothing xs d out ys n e P = let same : xs ++ ys ≡ xs = ap (λ (zs : List Arc). xs ++ zs) e ∙ append-nil xs in rw same P

pub put_arc : (xs d out : List Arc) (c : ℕ) (x : Arc) → c < length d → Put xs d out c → Put (xs ++ (x ∷ [])) d (set out c x) (c + 1)
put_arc xs d out c x room P = (simp length-append (omega (arith, P.0)), push_at xs d out c x P.1 (sym P.0) room)

-- arc i is left out, or there
pub not_there : (N : Net) (i : ℕ) → (Open N i → ⊥) → open_arc N i ≡ []
unfolding open_arc
not_there N i x = go (closed N (N.nodes + i)) (closed N (head_at N i)) (λ q r. x (q, r))
  where
    go : (t u : Bool) → (t ≡ false → u ≡ false → ⊥) → pick t [] (pick u [] (arc_at N i ∷ [])) ≡ []
    go true u y = refl
    go false true y = refl
    go false false y = absurd (y refl refl)

pub arc_there : (N : Net) (i : ℕ) → Open N i → open_arc N i ≡ arc_at N i ∷ []
unfolding open_arc
arc_there N i o = rw (o.0, o.1)

-- the open ones of the first n arcs are no more than all of them
pub open_most : (N : Net) (n : ℕ) → length (open_to N n) ≤ n
unfolding open_to open_arc
open_most N zero = omega arith
open_most N (suc n) = more (closed N (N.nodes + n)) (closed N (head_at N n)) (open_most N n)
  where
    more : (t u : Bool) → length (open_to N n) ≤ n → length (open_to N n ++ pick t [] (pick u [] (arc_at N n ∷ []))) ≤ suc n
    more true u h = simp length-append (omega arith)
    more false true h = simp length-append (omega arith)
    more false false h = simp length-append (omega arith)

-- they stand over the front of d: how many they are, and that they are packed
pub record Looked (N : Net) (n : ℕ) (d : List Arc) : Type 0 where
  pub many : ℕ
  pub numbers : length (open_to N n) ≡ many
  pub packed : PackedTo N n (front (open_to N n) d) many

pub looked : (N : Net) (d : List Arc) (n : ℕ) → n ≤ length d → Looked N n d
unfolding open_to
looked N d zero h = record { many = 0; numbers = refl; packed = pack_begun N d }
looked N d (suc n) h = more (looked N d n (omega arith)) (closed N (N.nodes + n)) (closed N (head_at N n)) refl refl
  where
    left : Looked N n d → (Open N n → ⊥) → Looked N (suc n) d
    left L x =
        let e = not_there N n x in
        let same : open_to N n ++ open_arc N n ≡ open_to N n = ap (λ (ys : List Arc). open_to N n ++ ys) e ∙ append-nil (open_to N n) in
        record { many = L.many; numbers = ap length same ∙ L.numbers; packed = rw (same, ← add-one n) (pack_none x L.packed) }

    put : Looked N n d → Open N n → Looked N (suc n) d
    put L o =
        let fits : length (open_to N n) ≤ length d = omega (arith, open_most N n) in
        let free : L.many < length d = omega (arith, open_most N n, L.numbers) in
        let room : L.many < length (front (open_to N n) d) = rw (length_front (open_to N n) d fits) free in
        let P = put_arc (open_to N n) d (front (open_to N n) d) L.many (arc_at N n) free (sym L.numbers, refl) in
        let e = arc_there N n o in
        record { many = L.many + 1; numbers = rw e (sym P.0); packed = rw (e, ← P.1, ← add-one n) (pack_one N n (front (open_to N n) d) L.many room o L.packed) }

    more : Looked N n d → (t u : Bool) → closed N (N.nodes + n) ≡ t → closed N (head_at N n) ≡ u → Looked N (suc n) d
    more L true u q r = left L (λ o. true≢false (sym q ∙ o.0))
    more L false true q r = left L (λ o. true≢false (sym r ∙ o.1))
    more L false false q r = put L (q, r)

pub open_more : (N : Net) (n : ℕ) → open_to N (n + 1) ≡ open_to N n ++ open_arc N n
unfolding open_to
open_more N n = ap (open_to N) (add-one n)

-- the next arc looked at: one that is not open is left out, an open one is put behind the others
pub left_out : (N : Net) (n r : ℕ) (d out : List Arc) → (Open N n → ⊥) → Put (open_to N n) d out r → Put (open_to N (n + 1)) d out r
left_out N n r d out x P = rw (open_more N n) (put_nothing (open_to N n) d out (open_arc N n) r (not_there N n x) P)

pub put_open : (N : Net) (n c : ℕ) (d out : List Arc) → c < length d → Open N n → Put (open_to N n) d out c
    → Put (open_to N (n + 1)) d (set out c (arc_at N n)) (c + 1)
put_open N n c d out room o P = rw (open_more N n, arc_there N n o) (put_arc (open_to N n) d out c (arc_at N n) room P)

-- what packing gives and leaves: the r arcs in front are the open ones
pub record Packs (N : Net) (out : List Arc) (r : ℕ) : Type 0 where
  pub most : r ≤ length N.arcs
  pub within : r ≤ length out
  pub arcs : take r out ≡ open_arcs N
  pub packed : Packed N (take r out)

pub packs : (N : Net) (d : List Arc) {out : List Arc} {r : ℕ} → length N.arcs ≤ length d → Put (open_arcs N) d out r → Packs N out r
packs N d {out} {r} room w = record {
  most = most;
  within = omega (arith, many, within);
  arcs = rw w.1 (take_at (open_arcs N) _ r (sym w.0));
  packed = rw many (pack_done within refl (rw w.1 L.packed));
}
  where
    L : Looked N (count N) d
    L = looked N d (count N) (omega arith)

    many : r ≡ L.many
    many = w.0 ∙ L.numbers

    most : r ≤ length N.arcs
    most = omega (arith, w.0, open_most N (count N))

    within : L.many ≤ length out
    within = omega (arith, most, many, ap length w.1 ∙ length_front (open_arcs N) d (omega (arith, w.0, most)))

pub open_packed : (N : Net) → Packed N (open_arcs N)
open_packed N = let P = packs N N.arcs (omega arith) (refl, refl) in rw P.arcs at P.packed
