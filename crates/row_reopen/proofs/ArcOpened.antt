-- An item is opened. Where it is an arc that can cut no entry of a row, the row holds the least lengths as before: for no other arc can either, since
-- the lengths were least (`tight`), and a row of lengths of walks that no open arc can cut is least. Else the row can be mended from a few nodes on.
-- Assumes nothing.
use Prim.Native.Nat.{ℕ, ◌+◌, ◌≤◌, ◌<◌}
use mathlib.Core.Path.{◌≡◌, refl, sym, ap, ◌∙◌}
use mathlib.Core.Logic.{◌⊎◌, inl, inr}
use borrow.Author.Tests.{ne_eqb}
use mathlib.Core.Bool.{false}
use mathlib.Core.List.{List, []}
use native.Mathlib.Omega.{arith}
use native.Mathlib.Decide.{ℕ_discrete}
use lib.ListN.{get_or, set, length-set}
use Rattle.walks.specs.declared.arc.Arc.{Arc}
use Rattle.walks.specs.Graph.{len, least}
use Rattle.walks.specs.Lengths.{Least, none, some}
use Rattle.walks.proofs.Join.{meets_none}
use Rattle.walks.proofs.LeastLaw.{Upto, is_least, walk_fit}
use Rattle.rows.specs.Held.{missing}
use Rattle.rows.specs.Net.{Net, net_of, graph, closed, count, arc_count, tail_in, head_in, weight_in, tail_at, head_at, weight_at, Proper, Open, Packed}
use Rattle.rows.specs.Rows.{RowIs, Way, Sound, RowGood, Tried, Settled}
use Rattle.rows.proofs.HeldLaws.{Held, low, high, holds, Above}
use Rattle.rows.proofs.OpenLaws.{sound_opens, row_sound}
use Rattle.rows.proofs.RowLaws.{way_more, row_is}
use Rattle.row_reopen.specs.Openings.{Entering}
use Rattle.rows.specs.Bits.{bit_of}
use Rattle.row_spread.specs.Active.{Mendable}
use Rattle.walks.proofs.OpenedLaws.{open_other, opens}
use Rattle.row_links.proofs.PackOpened.{open_before}

pub proper_opened : (n : ℕ) (xs : List Arc) (marks : List ℕ) (i : ℕ) → Proper (net_of n xs marks) → Proper (net_of n xs (set marks i 0))
proper_opened n xs marks i p = record { few = p.few; marked = omega (arith, p.marked, length-set marks i 0); tails = p.tails; heads = p.heads }

-- no open arc can cut an entry of a row of least lengths
module _ (N : Net) (cap s : ℕ) (d : List ℕ) (small : cap < missing) (p : Proper N) (R : RowIs N cap s d) where
  short : (v k : ℕ) → v < N.nodes → Way N s v k → k ≤ cap → get_or d v 0 ≤ k
  short v k hv W h =
      go (holds cap (least (graph N) (closed N) [] s v) (R v hv))
      ((is_least (graph N) (closed N) [] s v).lower W.0 (walk_fit (graph N) (closed N) [] v s W.0 W.1 (meets_none (graph N) s W.0)))
    where
      above : (r : Least) → Above cap r → Upto r (len (graph N) W.0) → missing ≤ k
      above none a u = absurd u
      above (some j) a u = absurd (omega (arith, W.2))

      go : {x : ℕ} → Held cap (least (graph N) (closed N) [] s v) x → Upto (least (graph N) (closed N) [] s v) (len (graph N) W.0) → x ≤ k
      go (low {k = x} l e) u = let u' : x ≤ len (graph N) W.0 = rw e at u in omega (arith, W.2)
      go (high a) u = above (least (graph N) (closed N) [] s v) a u

  pub tight : (i : ℕ) → i < count N → Open N i → Tried cap d (tail_at N i) (head_at N i) (weight_at N i)
  tight i h o c =
      let W = (row_sound N cap s d small R).sound (tail_at N i) (p.tails i h) (omega arith) in
      short (head_at N i) (get_or d (tail_at N i) 0 + weight_at N i) (p.heads i h) (way_more N s i (get_or d (tail_at N i) 0) p h o W) c

  row_begun : s < N.nodes → closed N s ≡ false → get_or d s 0 ≡ 0
  unfolding len
  row_begun h o = let z = short s 0 h ([], record { node = h; open_node = o; there = refl }, refl) (omega arith) in omega arith

module _ (n : ℕ) (xs : List Arc) (marks : List ℕ) (l : ℕ) (p : Proper (net_of n xs marks)) (below : l < arc_count xs) where
  abbrev now : Net
  now = net_of n xs marks

  abbrev then : Net
  then = net_of n xs (set marks (n + l) 0)

  pub row_kept : (cap s : ℕ) (d : List ℕ) (ys : List Arc) → cap < missing → s < n → Packed then ys
      → (closed then (head_in xs l) ≡ false → Tried cap d (tail_in xs l) (head_in xs l) (weight_in xs l)) → RowIs now cap s d → RowIs then cap s d
  row_kept cap s d ys small hs P t R = row_is then cap ys d P settled s small good
    where
      sound : Sound then cap s d
      sound = sound_opens n xs marks (set marks (n + l) 0) cap s d (opens marks (n + l)) (row_sound now cap s d small R)

      good : RowGood then cap s d
      good = record {
        sound = sound.sound;
        range = sound.range;
        begun = λ h o. row_begun now cap s d small p R h (sym (open_other marks (n + l) s (λ e. absurd (omega arith))) ∙ o);
      }

      tried : (i : ℕ) → i < arc_count xs → Dec (i ≡ l) → Open then i → Tried cap d (tail_in xs i) (head_in xs i) (weight_in xs i)
      tried i h (yes q) o = rw q (t (rw q at o.1))
      tried i h (no q) o = tight now cap s d small p R i h (open_before n xs marks l p.heads i h q o)

      settled : Settled cap ys 0 (arc_count ys) d
      settled k z h =
          let a = P.only k h in
          rw (a.3.tail, a.3.head, a.3.weight) (tried a.0 a.1 (ℕ_discrete a.0 l) a.2)

  -- and where it can, only its tail need be active
  pub row_mendable : (cap s : ℕ) (d : List ℕ) (ys : List Arc) (active : ℕ) → cap < missing → s < n → Packed then ys
      → bit_of active (tail_in xs l) ≡ 1 → RowIs now cap s d → Mendable cap ys (set marks (n + l) 0) s active d
  row_mendable cap s d ys active small hs P o R = record { still = record { tried = still }; begun = λ b. begun (ℕ_discrete (get_or (set marks (n + l) 0) s 0) 2) }
    where
      tried : (i : ℕ) → i < arc_count xs → Dec (i ≡ l) → Open then i → bit_of active (tail_in xs i) ≡ 0 → Tried cap d (tail_in xs i) (head_in xs i) (weight_in xs i)
      tried i h (yes q) p b = absurd (omega (arith, o, b, ap (λ (k : ℕ). bit_of active (tail_in xs k)) q))
      tried i h (no q) p' b = tight now cap s d small p R i h (open_before n xs marks l p.heads i h q p')

      still : (j : ℕ) → j < arc_count ys → bit_of active (tail_in ys j) ≡ 0 → Tried cap d (tail_in ys j) (head_in ys j) (weight_in ys j)
      still j h b =
          let a = P.only j h in
          rw (a.3.tail, a.3.head, a.3.weight) (tried a.0 a.1 (ℕ_discrete a.0 l) a.2 (rw a.3.tail at b))

      begun : Dec (get_or (set marks (n + l) 0) s 0 ≡ 2) → (get_or (set marks (n + l) 0) s 0 ≡ 2) ⊎ (get_or d s 0 ≡ 0)
      begun (yes q) = inl q
      begun (no q) = inr (row_begun now cap s d small p R hs (sym (open_other marks (n + l) s (λ e. absurd (omega arith))) ∙ ne_eqb _ _ q))

-- the same once a node v is opened, for the tails of the arcs that enter it
module _ (n : ℕ) (xs : List Arc) (marks : List ℕ) (v : ℕ) (p : Proper (net_of n xs marks)) (node : v < n) where
  pub node_mendable : (cap s : ℕ) (d : List ℕ) (ys : List Arc) (active : ℕ) → cap < missing → s < n → Packed (net_of n xs (set marks v 0)) ys
      → Entering (arc_count ys) ys v active → RowIs (net_of n xs marks) cap s d → Mendable cap ys (set marks v 0) s active d
  node_mendable cap s d ys active small hs P E R = record {
    still = record { tried = still };
    begun = λ b. begun b (ℕ_discrete s v) (ℕ_discrete (get_or (set marks v 0) s 0) 2);
  }
    where
      still : (j : ℕ) → j < arc_count ys → bit_of active (tail_in ys j) ≡ 0 → Tried cap d (tail_in ys j) (head_in ys j) (weight_in ys j)
      still j h b =
          let a = P.only j h in
          let q : head_in xs a.0 ≡ v → ⊥ = λ e. absurd (omega (arith, b, E.tails j h (a.3.head ∙ e))) in
          let o : Open (net_of n xs marks) a.0 =
          (sym (open_other marks v (n + a.0) (λ e. absurd (omega arith))) ∙ a.2.0, sym (open_other marks v (head_in xs a.0) q) ∙ a.2.1) in
          rw (a.3.tail, a.3.head, a.3.weight) (tight (net_of n xs marks) cap s d small p R a.0 a.1 o)

      begun : bit_of active s ≡ 0 → Dec (s ≡ v) → Dec (get_or (set marks v 0) s 0 ≡ 2) → (get_or (set marks v 0) s 0 ≡ 2) ⊎ (get_or d s 0 ≡ 0)
      begun b (yes e) m = absurd (omega (arith, b, E.own, ap (bit_of active) e))
      begun b (no e) (yes q) = inl q
      begun b (no e) (no q) = inr (row_begun (net_of n xs marks) cap s d small p R hs (sym (open_other marks v s e) ∙ ne_eqb _ _ q))
