-- Where a walk of a taken sheet meets at most eight goals, some shortest one has at most 575 arcs and 38,027,625 minutes: no length that an operation asks
-- for needs more than 32 bits, and no sheet is refused for one. Assumes nothing.
use Prim.Native.Nat.{ℕ, ◌≤◌}
use mathlib.Core.Path.{◌≡◌, refl}
use mathlib.Core.Bool.{Bool, true}
use mathlib.Core.List.{List, []}
use native.Mathlib.Omega.{arith}
use lib.ListN.{length}
use Rattle.sheet.proofs.SheetLaws.{taken_got, taken_good, good_weight}
use Rattle.sheet.specs.Reader.{taken}
use Rattle.sheet.specs.Sheet.{Sheet, is_forbidden, required}
use Rattle.varint.specs.Varint.{got}
use Rattle.walks.proofs.Bound.{least_bound}
use Rattle.walks.proofs.LeastLaw.{IsLeast, is_least}
use Rattle.walks.specs.Graph.{fit, least}
use Rattle.walks.specs.Lengths.{Least, none, some}
use Rattle.pass_rules.specs.Shortest.{Shortest}

module _ (bs : List ℕ) (S : Sheet) (e : taken bs ≡ got S []) where
  -- For any goals, nodes or arcs, at most eight of them, any closures and any two ends: verdict 2's single goal, reason's item, check's lists and the lengths
  -- that `cost` prints are cases of it.
  pub goals_bound : (closed : ℕ → Bool) (goals : List ℕ) → length goals ≤ 8 → (a b : ℕ) (w : List ℕ) → fit S.graph closed goals a b w ≡ true
      → Shortest S.graph closed goals a b
  goals_bound closed goals h a b w f = go (least S.graph closed goals a b) refl (is_least S.graph closed goals a b)
    where
      go : (r : Least) → least S.graph closed goals a b ≡ r → IsLeast S.graph closed goals a b r → Shortest S.graph closed goals a b
      go none q L = absurd (L.lower w f)
      go (some k) q L =
          let g = taken_good bs S [] e in
          let v = least_bound S.graph closed goals a b 66135 k (good_weight S g) g.nodes h q in
          record {
            way = v.0.0;
            fitting = v.0.1;
            shortest = λ u p. omega (arith, v.0.2, L.lower u p);
            arcs = v.0.3;
            minutes = omega (arith, v.0.2, v.1);
          }

  -- For the required items, mandatory arcs among them. Counted by stretches, nine of at most 63 arcs and the eight arcs that are required themselves, these are
  -- 9 × 63 + 8 = 575 arcs; counted by the pairs of a node and how many goals were met, 64 × 9 of which some shortest walk passes none twice, they are
  -- 576 − 1. The proof goes by the pairs, and both counts agree.
  pub required_bound : (w : List ℕ) → fit S.graph (is_forbidden S) (required S) S.source S.target w ≡ true
      → Shortest S.graph (is_forbidden S) (required S) S.source S.target
  required_bound = goals_bound (is_forbidden S) (required S) (taken_got bs S [] e).0.few S.source S.target
