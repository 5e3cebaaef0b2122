-- The active node with the least entry, found by taking the lowest active node off until none is left. Assumes nothing.
use Prim.Native.Nat.{ℕ, ◌-◌, ◌^◌, ◌≤◌, ◌<◌}
use mathlib.Core.Path.{◌≡◌, ap, ◌∙◌}
use mathlib.Core.Logic.{◌⊎◌, inl, inr, ⊎_elim}
use mathlib.Core.List.{List}
use native.Mathlib.Omega.{arith}
use native.Mathlib.Decide.{ℕ_discrete}
use lib.Bits.{and_le_l}
use lib.Count.{count_trailing_zeros}
use lib.ListN.{get_or}
use Rattle.rows.specs.Bits.{bit_of}
use Rattle.rows.proofs.BitLaws.{off, lowest, lowest_small, lowest_rest, lowest_part}

-- best is active, and has the least entry of the active nodes that are not in rest
pub record Seen (row : List ℕ) (active best rest : ℕ) : Type 0 where
  pub node : best < 64
  pub member : bit_of active best ≡ 1
  pub part : (x : ℕ) → bit_of rest x ≡ 1 → bit_of active x ≡ 1
  pub small : rest ≤ active
  pub least : (x : ℕ) → bit_of active x ≡ 1 → (bit_of rest x ≡ 1) ⊎ (get_or row best 0 ≤ get_or row x 0)

module _ (row : List ℕ) where
  pub seen_begun : (a : ℕ) → 0 < a → a < 2 ^ 64 → Seen row a (count_trailing_zeros 64 a) (off a)
  seen_begun a z h = record {
    node = lowest_small a z h;
    member = lowest 64 a z h;
    part = λ x. lowest_part 64 a x z h;
    small = and_le_l a (a - 1);
    least = λ x e. elim (ℕ_discrete x (count_trailing_zeros 64 a)) [
      | yes q ↦ inr (omega (arith, ap (λ (k : ℕ). get_or row k 0) q))
      | no q ↦ inl (lowest_rest 64 a x z h q ∙ e)
    ];
  }

  -- the lowest of the rest has a lesser entry, or it has not
  module _ {active best rest : ℕ} (z : 0 < rest) (h : rest < 2 ^ 64) (S : Seen row active best rest) where
    abbrev u : ℕ
    u = count_trailing_zeros 64 rest

    next : (b : ℕ) → b < 64 → bit_of active b ≡ 1 → get_or row b 0 ≤ get_or row best 0 → get_or row b 0 ≤ get_or row u 0 → Seen row active b (off rest)
    next b n m k l = record {
      node = n;
      member = m;
      part = λ x e. S.part x (lowest_part 64 rest x z h e);
      small = omega (arith, and_le_l rest (rest - 1), S.small);
      least = λ x e. ⊎_elim (λ r. elim (ℕ_discrete x u) [
        | yes q ↦ inr (omega (arith, ap (λ (k : ℕ). get_or row k 0) q))
        | no q ↦ inl (lowest_rest 64 rest x z h q ∙ r)
      ]) (λ r. inr (omega arith)) (S.least x e);
    }

    pub seen_less : get_or row u 0 < get_or row best 0 → Seen row active u (off rest)
    seen_less k = next u (lowest_small rest z h) (S.part u (lowest 64 rest z h)) (omega arith) (omega arith)

    pub seen_same : get_or row best 0 ≤ get_or row u 0 → Seen row active best (off rest)
    seen_same k = next best S.node S.member (omega arith) k
