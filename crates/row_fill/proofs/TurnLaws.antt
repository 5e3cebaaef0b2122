-- The exchanged arcs as the code writes them. Assumes nothing.
use Prim.Native.Nat.{ℕ, ◌+◌, ◌≤◌, ◌<◌}
use mathlib.Core.Path.{◌≡◌, sym, ap, ◌∙◌}
use mathlib.Core.List.{List}
use native.Mathlib.Omega.{arith}
use native.Mathlib.Decide.{ℕ_discrete}
use lib.ListN.{length, get_or, set, take}
use lib.Seq.{get_or-take, get_or-set_same, get_or-set_other, length-take-le}
use Rattle.rows.proofs.ArcLaws.{tail_at_lem, head_at_lem, weight_at_lem}
use Rattle.walks.specs.declared.arc.Arc.{Arc}
use Rattle.walks.specs.Graph.{no_arc}
use Rattle.rows.specs.Held.{held}
use Rattle.rows.specs.Net.{Net, net_of, closed, count, arc_at, tail_in, head_in, weight_in}
use Rattle.rows.specs.Rows.{RowIs, RowTo}
use Rattle.walks.proofs.BackLaws.{Turned, least_back}
use Rattle.row_spread.specs.Arcs.{TurnedTo}

-- the arcs xs, and the first of ys as many as those, exchanged
module _ (n : ℕ) (xs ys : List Arc) (ms : List ℕ) (long : length xs ≤ length ys) (T : TurnedTo (length xs) xs ys) where
  abbrev zs : List Arc
  zs = take (length xs) ys

  abbrev M : Net
  M = net_of n zs ms

  abbrev N : Net
  N = net_of n xs ms

  same_count : count M ≡ count N
  same_count = length-take-le (length xs) ys long

  at : (i : ℕ) → i < count N → arc_at M i ≡ get_or ys i no_arc
  at i h = get_or-take (length xs) ys i no_arc h

  turned_arcs : Turned n xs zs
  turned_arcs = record {
    many = same_count;
    tails = λ l h. tail_at_lem M l (rw same_count h) ∙ ap (λ (x : Arc). x.tail) (at l h) ∙ (T l h).0 ∙ sym (head_at_lem N l h);
    heads = λ l h. head_at_lem M l (rw same_count h) ∙ ap (λ (x : Arc). x.head) (at l h) ∙ (T l h).1 ∙ sym (tail_at_lem N l h);
    weights = λ l h. weight_at_lem M l (rw same_count h) ∙ ap (λ (x : Arc). x.weight) (at l h) ∙ (T l h).2 ∙ sym (weight_at_lem N l h);
  }

  pub row_to : (cap t : ℕ) (d : List ℕ) → RowIs M cap t d → RowTo N cap t d
  row_to cap t d R v hv = R v hv ∙ ap (held cap) (least_back n xs zs (closed N) turned_arcs v t)

-- one arc more is exchanged
pub turn_more : (xs ys : List Arc) (i : ℕ) (x : Arc) → i < length ys → x.tail ≡ head_in xs i → x.head ≡ tail_in xs i → x.weight ≡ weight_in xs i
    → TurnedTo i xs ys → TurnedTo (i + 1) xs (set ys i x)
turn_more xs ys i x room t h w T k l = go (ℕ_discrete k i)
  where
    own : k ≡ i → get_or (set ys i x) k no_arc ≡ x
    own q = rw q (get_or-set_same ys i x no_arc room)

    other : (k ≡ i → ⊥) → get_or (set ys i x) k no_arc ≡ get_or ys k no_arc
    other q = get_or-set_other ys i k x no_arc q

    go : Dec (k ≡ i) → (tail_in (set ys i x) k ≡ head_in xs k) × (head_in (set ys i x) k ≡ tail_in xs k) × (weight_in (set ys i x) k ≡ weight_in xs k)
    go (yes q) = (
      ap (λ (y : Arc). y.tail) (own q) ∙ t ∙ ap (head_in xs) (sym q),
      ap (λ (y : Arc). y.head) (own q) ∙ h ∙ ap (tail_in xs) (sym q),
      ap (λ (y : Arc). y.weight) (own q) ∙ w ∙ ap (weight_in xs) (sym q),
    )
    go (no q) =
        let e = T k (omega arith) in (
          ap (λ (y : Arc). y.tail) (other q) ∙ e.0,
          ap (λ (y : Arc). y.head) (other q) ∙ e.1,
          ap (λ (y : Arc). y.weight) (other q) ∙ e.2,
        )
