-- Arcs that are put behind the packed ones and in front of their tail's chain, and taken off again. Assumes nothing.
use Prim.Native.Nat.{ℕ, ◌+◌, ◌-◌, ◌≤◌, ◌<◌}
use mathlib.Core.Path.{◌≡◌, refl, sym, ap, ◌∙◌, subst}
use mathlib.Core.Bool.{true, false}
use mathlib.Core.List.{List}
use native.Mathlib.Omega.{arith}
use lib.ListN.{length, get_or, take, drop, set, length-set}
use lib.Seq.{get_or-take, get_or-set_same, get_or-set_other, length-take-le, take-set-le}
use Rattle.walks.specs.declared.arc.Arc.{Arc}
use Rattle.walks.specs.Graph.{no_arc, closed_in}
use Rattle.rows.specs.Net.{Net, net_of, closed, head_at, arc_count, tail_in, head_in, Proper}
use Rattle.lists.specs.Lists.{Put}
use Rattle.lists.proofs.FrontLaws.{length_front}
use Rattle.row_arcs.specs.OpenArcs.{open_arcs}
use Rattle.row_arcs.proofs.PackLaws.{packed_joins, packs}
use Rattle.row_spread.specs.Arcs.{ChainedBy, Chained}
use Rattle.row_spread.proofs.ChainLaws.{chain_more, chain_less, chain_same}
use Rattle.row_links.specs.Links.{Linked, Shaped, put_on, taken_off, AllLinked, ItemLinked, packed_on, linked_on, left, behind, anew}
use Rattle.row_links.proofs.PackOpened.{add_none, add_one}

pub linked_shaped : {N : Net} {c : ℕ} {ps : List Arc} {ks : List ℕ} → Proper N → Linked N c ps ks → Shaped c ps ks
linked_shaped p L = record { long = L.long; room = L.room; joins = packed_joins p L.packed; chained = L.chained }

-- the chains of the first c arcs, by the tails in any list that has them in front
module _ (ps : List Arc) (c : ℕ) (end : ℕ → ℕ) (room : c ≤ length ps) (same : (k : ℕ) → k < c → end k ≡ tail_in ps k) where
  front_tail : (k : ℕ) → k < c → tail_in (take c ps) k ≡ tail_in ps k
  front_tail k h = ap (λ (x : Arc). x.tail) (get_or-take c ps k no_arc h)

  pub chained_by : {ks : List ℕ} → Chained (take c ps) ks → ChainedBy end c ks
  chained_by {ks} C =
      chain_same (tail_in (take c ps)) end (λ k h. front_tail k h ∙ sym (same k h))
      (subst (λ (m : ℕ). ChainedBy (tail_in (take c ps)) m ks) (length-take-le c ps room) C)

  pub by_chained : {ks : List ℕ} → ChainedBy end c ks → Chained (take c ps) ks
  by_chained {ks} C =
      subst (λ (m : ℕ). ChainedBy (tail_in (take c ps)) m ks) (sym (length-take-le c ps room))
      (chain_same end (tail_in (take c ps)) (λ k h. same k h ∙ sym (front_tail k h)) C)

-- What opening item i does: r arcs are linked then, where c were before. Where one was put behind the others, what was before comes back once it is
-- taken off its chain.
pub record PackOpened (n : ℕ) (xs : List Arc) (marks : List ℕ) (i c : ℕ) (ps : List Arc) (ks : List ℕ) (ps' : List Arc) (ks' : List ℕ) (r : ℕ) : Type 0 where
  pub opened : (old : List ℕ) → marks ≡ set old i 0 → Linked (net_of n xs old) c ps ks → Linked (net_of n xs marks) r ps' ks'
  pub again : (old : List ℕ) → marks ≡ set old i 0 → Linked (net_of n xs old) c ps ks → n ≤ i → r ≡ c + 1 → Linked (net_of n xs old) c ps' (taken_off ps' ks' c)

-- the head is closed, or the arc is put behind the others
module _ (n : ℕ) (xs : List Arc) (marks : List ℕ) (l : ℕ) (ps : List Arc) (ks : List ℕ) (c : ℕ) (p : Proper (net_of n xs marks)) (below : l < arc_count xs)
    (few : c < 512) (long : length ps ≡ 512) where
  pub link_none : closed_in marks (head_in xs l) ≡ true → PackOpened n xs marks (n + l) c ps ks ps ks c
  link_none q = record {
    opened = λ old e L. record {
      long = long;
      room = L.room;
      packed = add_none n xs marks l old ps c p below (omega arith) e L.packed q;
      chained = L.chained;
    };
    again = λ old e L h r. absurd (omega arith);
  }

  abbrev more : List Arc
  more = packed_on (net_of n xs marks) l c ps

  abbrev after : List ℕ
  after = linked_on (net_of n xs marks) l c ks

  own_tail : tail_in more c ≡ tail_in xs l
  own_tail = ap (λ (x : Arc). x.tail) (get_or-set_same ps c (get_or xs l no_arc) no_arc (omega arith))

  tail_below : tail_in more c < 64
  tail_below = omega (arith, own_tail, p.tails l below, p.few)

  tail_kept : (k : ℕ) → k < c → tail_in more k ≡ tail_in ps k
  tail_kept k h = ap (λ (x : Arc). x.tail) (get_or-set_other ps c k (get_or xs l no_arc) no_arc (λ e. omega arith))

  module _ (old : List ℕ) (e : marks ≡ set old (n + l) 0) (L : Linked (net_of n xs old) c ps ks) where
    chains_more : ChainedBy (tail_in more) (c + 1) after
    chains_more =
        subst (λ (u : ℕ). ChainedBy (tail_in more) (c + 1) (put_on ks u c)) own_tail
        (chain_more (tail_in more) tail_below few (chained_by ps c (tail_in more) (omega arith) tail_kept L.chained))

    linked_more : closed_in marks (head_in xs l) ≡ false → Linked (net_of n xs marks) (c + 1) more after
    linked_more q = record {
      long = length-set ps c (get_or xs l no_arc) ∙ long;
      room = omega arith;
      packed = add_one n xs marks l old ps c p below (omega arith) e L.packed q;
      chained = by_chained more (c + 1) (tail_in more) (omega (arith, length-set ps c (get_or xs l no_arc))) (λ k h. refl) chains_more;
    }

    linked_again : Linked (net_of n xs old) c more (taken_off more after c)
    linked_again = record {
      long = length-set ps c (get_or xs l no_arc) ∙ long;
      room = L.room;
      packed = rw same L.packed;
      chained = rw same (by_chained ps c (tail_in more) (omega arith) tail_kept (chain_less (tail_in more) tail_below chains_more));
    }
      where
        same : take c more ≡ take c ps
        same = take-set-le c ps c (get_or xs l no_arc) (omega arith)

  pub link_one : closed_in marks (head_in xs l) ≡ false → PackOpened n xs marks (n + l) c ps ks more after (c + 1)
  link_one q = record { opened = λ old e L. linked_more old e L q; again = λ old e L h r. linked_again old e L }

-- the arcs packed anew: what came before is not asked for again
pub link_anew : {n : ℕ} {xs : List Arc} {marks : List ℕ} {i c : ℕ} {ps : List Arc} {ks : List ℕ} {ps' : List Arc} {ks' : List ℕ} {r : ℕ} → (n ≤ i → 512 ≤ c)
    → Linked (net_of n xs marks) r ps' ks' → PackOpened n xs marks i c ps ks ps' ks' r
link_anew full L = record { opened = λ old e _. L; again = λ old e _ h q. absurd (omega (arith, full h, L.room)) }

-- all arcs packed, and then chained
pub all_linked : (N : Net) (ps ps' : List Arc) (ks ks' : List ℕ) (r : ℕ) → length N.arcs ≤ length ps → Put (open_arcs N) ps ps' r → Chained (take r ps') ks'
    → drop (64 + arc_count (take r ps')) ks' ≡ drop (64 + arc_count (take r ps')) ks → AllLinked N r ps ks ps' ks'
all_linked N ps ps' ks ks' r few w C e =
    let P = packs N ps few w in
    record { put = w; chained = rw P.arcs at C; rest = rw (length-take-le r ps' P.within) at e }

-- they are the open ones then, and chained
pub linked_all : {N : Net} {c : ℕ} {ps : List Arc} {ks : List ℕ} {ps' : List Arc} {ks' : List ℕ} → length N.arcs ≤ 512 → length ps ≡ 512
    → AllLinked N c ps ks ps' ks' → Linked N c ps' ks'
linked_all {N} {c} {ps} {ks} {ps'} {ks'} few long A =
    let P = packs N ps (omega arith) A.put in record {
      long = ap length A.put.1 ∙ length_front (open_arcs N) ps (omega (arith, A.put.0, P.most)) ∙ long;
      room = omega (arith, P.most);
      packed = P.packed;
      chained = rw P.arcs A.chained;
    }

-- an arc opened, as the code has it
module _ (N : Net) (l : ℕ) (ps : List Arc) (ks : List ℕ) (c : ℕ) (few : c < 512) where
  same : N.nodes + l - N.nodes ≡ l
  same = omega arith

  pub arc_left : closed N (head_at N l) ≡ true → ItemLinked N (N.nodes + l) c ps ks ps ks c
  arc_left q = left (omega arith) few (rw same q)

  pub arc_behind : closed N (head_at N l) ≡ false → ItemLinked N (N.nodes + l) c ps ks (packed_on N l c ps) (linked_on N l c ks) (c + 1)
  arc_behind q =
      subst (λ (k : ℕ). ItemLinked N (N.nodes + l) c ps ks (packed_on N k c ps) (linked_on N k c ks) (c + 1)) same
      (behind (omega arith) few (rw same q))

-- an item opened
pub item_linked : {n : ℕ} {xs : List Arc} {marks : List ℕ} {i c : ℕ} {ps : List Arc} {ks : List ℕ} {ps' : List Arc} {ks' : List ℕ} {r : ℕ}
    → Proper (net_of n xs marks) → length xs ≤ 512 → i < n + arc_count xs → length ps ≡ 512 → ItemLinked (net_of n xs marks) i c ps ks ps' ks' r
    → PackOpened n xs marks i c ps ks ps' ks' r
item_linked {n} {xs} {marks} {i} {c} {ps} {ks} p few below long (left h m q) =
    let e : n + (i - n) ≡ i = omega arith in
    rw e at (link_none n xs marks (i - n) ps ks c p (omega arith) m long q)
item_linked {n} {xs} {marks} {i} {c} {ps} {ks} p few below long (behind h m q) =
    let e : n + (i - n) ≡ i = omega arith in
    rw e at (link_one n xs marks (i - n) ps ks c p (omega arith) m long q)
item_linked p few below long (anew full A) = link_anew full (linked_all few long A)
