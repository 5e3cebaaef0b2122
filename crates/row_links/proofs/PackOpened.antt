-- The list of open arcs once an arc is opened: it is put behind the others where its head is open, and else the list is as it was. Assumes nothing.
use Prim.Native.Nat.{ℕ, ◌+◌, ◌<◌}
use mathlib.Core.Path.{◌≡◌, refl, sym, ◌∙◌}
use mathlib.Core.Bool.{true, false, true≢false}
use mathlib.Core.List.{List}
use native.Mathlib.Omega.{arith}
use lib.ListN.{length, get_or, take, set, length-set}
use Rattle.walks.specs.declared.arc.Arc.{Arc}
use Rattle.walks.specs.Graph.{no_arc, closed_in}
use Rattle.rows.specs.Net.{Net, net_of, arc_count, head_in, Proper, Open, PackedTo, Packed}
use Rattle.row_arcs.proofs.PackLaws.{pack_left, pack_put, pack_done, packed_to}
use Rattle.walks.proofs.OpenedLaws.{open_same, open_other, opens}

module _ (n : ℕ) (xs : List Arc) (marks : List ℕ) (l : ℕ) (heads : (i : ℕ) → i < arc_count xs → head_in xs i < n) where
  abbrev now : Net
  now = net_of n xs marks

  abbrev then : Net
  then = net_of n xs (set marks (n + l) 0)

  -- another arc that is open was so before
  pub open_before : (i : ℕ) → i < arc_count xs → (i ≡ l → ⊥) → Open then i → Open now i
  open_before i h q o = (
    sym (open_other marks (n + l) (n + i) (λ e. q (omega arith))) ∙ o.0,
    sym (open_other marks (n + l) (head_in xs i) (λ e. absurd (omega (arith, heads i h)))) ∙ o.1,
  )

  open_after : (i : ℕ) → Open now i → Open then i
  open_after i o = (opens marks (n + l) (n + i) o.0, opens marks (n + l) (head_in xs i) o.1)

  -- its head is closed
  pub packed_shut : (ys : List Arc) → (Open then l → ⊥) → Packed now ys → Packed then ys
  packed_shut ys x P = pack_left P (λ i h o. (h, open_after i o)) (λ i h o. (h, open_before i h (λ q. x (rw q at o)) o))

  -- it is put behind the others
  pub packed_more : l < arc_count xs → (ps : List Arc) (c : ℕ) → c < length ps → Open then l → PackedTo now (arc_count xs) ps c
      → PackedTo then (arc_count xs) (set ps c (get_or xs l no_arc)) (c + 1)
  packed_more below ps c room op P = pack_put P (λ i h o. (h, open_after i o)) l room below op (λ i h q o. (h, open_before i h q o))

-- the same as the code has it: the head is closed, or the arc is written behind the others
module _ (n : ℕ) (xs : List Arc) (marks : List ℕ) (l : ℕ) (old : List ℕ) (ps : List Arc) (c : ℕ) (p : Proper (net_of n xs marks)) (below : l < arc_count xs)
    (room : c < length ps) (e : marks ≡ set old (n + l) 0) (P : Packed (net_of n xs old) (take c ps)) where
  pub add_none : closed_in marks (head_in xs l) ≡ true → Packed (net_of n xs marks) (take c ps)
  add_none q = rw e (packed_shut n xs old l p.heads (take c ps) (λ o. true≢false (sym q ∙ (rw (← e) at o.1))) P)

  pub add_one : closed_in marks (head_in xs l) ≡ false → Packed (net_of n xs marks) (take (c + 1) (set ps c (get_or xs l no_arc)))
  add_one q =
      pack_done {xs = set ps c (get_or xs l no_arc)} {c = c + 1} (omega (arith, length-set ps c (get_or xs l no_arc))) refl
      (rw e (packed_more n xs old l p.heads below ps c room (open_same old (n + l), rw e at q) (packed_to {xs = ps} {c = c} (omega arith) P)))
