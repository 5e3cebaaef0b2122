-- A set gone through goal by goal, the lowest first: what a loop that takes off the lowest one each time knows of the rest. Assumes nothing.
use Prim.Native.Nat.{ℕ, ◌+◌, ◌-◌, ◌^◌, ◌≤◌, ◌<◌}
use mathlib.Core.Path.{◌≡◌, refl, sym, ap, ◌∙◌}
use mathlib.Core.Bool.{true, false, true≢false}
use native.Mathlib.Omega.{arith}
use native.Mathlib.Nat.{zero-div}
use native.Mathlib.Decide.{dec_lt, ℕ_discrete}
use lib.Bits.{and_le_r}
use lib.Count.{count_trailing_zeros}
use lib.Dec.{eqb}
use Rattle.rows.proofs.BitLaws.{off, lowest, lowest_none, lowest_gone, lowest_rest}
use Rattle.rows.specs.Bits.{bit_of}
use Rattle.goal_table.proofs.SetLaws.{has_digit, has_below}
use Rattle.goal_table.specs.Sets.{has, FirstOff}

-- a set has the goals whose bit is 1
has_bit : (S i b : ℕ) → bit_of S i ≡ b → has S i ≡ eqb b 1
has_bit S i b e = has_digit S i ∙ ap (λ (x : ℕ). eqb x 1) e

-- the lowest bit that is 1 is the first goal, and it is taken off
pub first_off : (set : ℕ) → 0 < set → set < 2 ^ 32 → FirstOff set (count_trailing_zeros 32 set) (off set)
first_off set z h = record {
  in_set = has_bit set (count_trailing_zeros 32 set) 1 (lowest 32 set z h);
  before = λ j l. has_bit set j 0 (lowest_none 32 set j l);
  off = has_bit (off set) (count_trailing_zeros 32 set) 0 (lowest_gone 32 set z h);
  others = λ j q. has_bit (off set) j (bit_of set j) (lowest_rest 32 set j z h q) ∙ sym (has_digit set j);
  less = omega (arith, and_le_r set (set - 1));
}

-- the rest of the set S once its goals below k are taken off, k lying no further than just past the last one
pub record Rest (S k rest : ℕ) : Type 0 where
  pub gone : (i : ℕ) → i < k → has rest i ≡ false
  pub left : (i : ℕ) → k ≤ i → has rest i ≡ has S i
  pub part : rest ≤ S
  pub within : (n : ℕ) → S < 2 ^ n → k ≤ n

-- i is the set's first goal from k on
pub record Next (S k i : ℕ) : Type 0 where
  pub from : k ≤ i
  pub in_set : has S i ≡ true
  pub skipped : (j : ℕ) → k ≤ j → j < i → has S j ≡ false

pub rest_begun : (S : ℕ) → Rest S 0 S
rest_begun S = record { gone = λ i h. absurd (omega arith); left = λ i h. refl; part = omega arith; within = λ n h. omega arith }

module _ {S k rest : ℕ} (R : Rest S k rest) where
  -- no goal of the set is left
  pub rest_done : rest ≡ 0 → (i : ℕ) → k ≤ i → has S i ≡ false
  rest_done z i h = sym (R.left i h) ∙ has_bit rest i 0 (rw (z, zero-div))

  module _ {i after : ℕ} (f : FirstOff rest i after) where
    from : k ≤ i
    from = go (dec_lt i k)
      where
        go : Dec (i < k) → k ≤ i
        go (yes h) = absurd (true≢false (sym f.in_set ∙ R.gone i h))
        go (no h) = omega arith

    pub rest_next : Next S k i
    rest_next = record { from = from; in_set = sym (R.left i from) ∙ f.in_set; skipped = λ j h l. sym (R.left j h) ∙ f.before j l }

    -- the first goal taken off
    pub rest_more : Rest S (i + 1) after
    rest_more = record {
      gone = λ j h. gone j h (ℕ_discrete j i);
      left = λ j h. f.others j (λ q. omega arith) ∙ R.left j (omega (arith, from));
      part = omega (arith, f.less, R.part);
      within = λ n h. omega (arith, has_below S i n h rest_next.in_set);
    }
      where
        gone : (j : ℕ) → j < i + 1 → Dec (j ≡ i) → has after j ≡ false
        gone j h (yes q) = rw q f.off
        gone j h (no q) = f.others j q ∙ f.before j (omega arith)

-- what holds of the set's goals below k holds of those below n where it has none between
pub members_further : {P : ℕ → Type 0} (S k n : ℕ) → ((i : ℕ) → k ≤ i → i < n → has S i ≡ false) → ((i : ℕ) → i < k → has S i ≡ true → P i)
    → (i : ℕ) → i < n → has S i ≡ true → P i
members_further {P} S k n none f i h e = go (dec_lt i k)
  where
    go : Dec (i < k) → P i
    go (yes l) = f i l e
    go (no l) = absurd (true≢false (sym e ∙ none i (omega arith) h))
