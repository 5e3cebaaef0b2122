-- What pass and reason give and leave over bytes, from what they write: the work does not enter into an answer, and is left by the refusal number.
-- Assumes nothing.
use Prim.Native.Nat.{ℕ, ◌+◌, ◌*◌, ◌≤◌, ◌<◌}
use mathlib.Core.Path.{◌≡◌, refl, ap, ◌∙◌}
use mathlib.Core.List.{List}
use native.Mathlib.Omega.{arith}
use lib.ListN.{length}
use borrow.Author.Tests.{lt-ltb, le-ltb}
use Rattle.lists.specs.Lists.{front}
use Rattle.pass_rules.proofs.WithinLaws.{Within}
use Rattle.sheet.specs.Answer.{Answer, finished, refused, Wrote, wrote}
use Rattle.work.proofs.LeftLaws.{left_finished, left_refused}
use Rattle.work.specs.Bytes.{zeroed_bytes, bytes_after}
use Rattle.work.specs.Left.{left, is_zeroed}
use Rattle.std.specs.Prelude.{Result, Ok, Err}
use Rattle.varint.specs.Refusal.{number_in, length_in}
use Rattle.varint.specs.declared.refusal.Refusal.{Refusal}
use Rattle.varint.specs.declared.refusal.Refusal.TheVariants.{ShortWork, ShortSlip}
use native.Mathlib.Decide.{dec_lt}
use Rattle.planner.specs.Layer.{BytesOutcome, bytes_outcome, bytes_enough}

-- what was written, with the one number, and the bytes left by the refusal number
abbrev told : Wrote → List ℕ → BytesOutcome
told w work = record { number = 65536 * w.number + w.length; work = left zeroed_bytes w.number work; slip = w.out }

told_is : (work slip : List ℕ) (a : Answer) → Within a → told (wrote a slip) work ≡ bytes_outcome a work slip
unfolding wrote bytes_outcome bytes_after
told_is work slip (finished bytes) l = rw (left_finished zeroed_bytes work) (ap (λ (n : ℕ). record { number = n; work = zeroed_bytes work; slip = front bytes slip }) (omega arith))
told_is work slip (refused e) l = rw (left_refused zeroed_bytes work e (λ z. absurd (omega (arith, l.0)))) (ap (λ (n : ℕ). record { number = n; work = bytes_after e work; slip = slip }) (omega arith))

module _ (a : Answer) (work slip : List ℕ) where
  -- 1: too few bytes of work
  pub short_bytes : length work < 65536 → record { number = 65536; work = work; slip = slip } ≡ bytes_outcome (bytes_enough work slip a) work slip
  unfolding bytes_outcome bytes_enough bytes_after
  short_bytes h = rw (lt-ltb (length work) 65536 h)

  module _ (h : 65536 ≤ length work) where
    -- 2: too short a slip
    pub short_slip : length slip < 1200 → record { number = 131072; work = work; slip = slip } ≡ bytes_outcome (bytes_enough work slip a) work slip
    unfolding bytes_outcome bytes_enough bytes_after
    short_slip g = rw (le-ltb (length work) 65536 h, lt-ltb (length slip) 1200 g)

    pub in_bytes : 1200 ≤ length slip → Within a → (w : Wrote) → w ≡ wrote a slip → {refusal number : ℕ} {after : List ℕ}
        → refusal ≡ w.number → number ≡ 65536 * w.number + w.length → after ≡ left zeroed_bytes refusal work
        → record { number = number; work = after; slip = w.out } ≡ bytes_outcome (bytes_enough work slip a) work slip
    unfolding bytes_enough
    in_bytes g l w e r n z =
        rw (n, z, r, le-ltb (length work) 65536 h, le-ltb (length slip) 1200 g) (ap (λ (w : Wrote). told w work) e ∙ told_is work slip a l)

-- the one number fits
pub small : (a : Answer) (slip : List ℕ) → Within a → (w : Wrote) → w ≡ wrote a slip → (w.number ≤ 27) × (w.length ≤ 65535)
unfolding wrote
small a slip l w e = rw e (go a l)
  where
    go : (a : Answer) → Within a → ((wrote a slip).number ≤ 27) × ((wrote a slip).length ≤ 65535)
    go (finished bytes) l = (omega arith, omega arith)
    go (refused e) l = (omega (arith, l.1), omega arith)

-- what a call answers that is lent work and a slip, whichever lengths they have
module _ (a : Answer) (work slip : List ℕ) (l : Within a) {r : Result ℕ Refusal} {out : List ℕ}
    (sw : length work < 65536 → (r ≡ Err ShortWork) × (out ≡ slip))
    (ss : 65536 ≤ length work → length slip < 1200 → (r ≡ Err ShortSlip) × (out ≡ slip))
    (called : 65536 ≤ length work → 1200 ≤ length slip → record { number = number_in r; length = length_in r; out = out } ≡ wrote a slip) where
  pub lent_small : (number_in r ≤ 27) × (length_in r ≤ 65535)
  lent_small = go (dec_lt (length work) 65536) (dec_lt (length slip) 1200)
    where
      go : Dec (length work < 65536) → Dec (length slip < 1200) → (number_in r ≤ 27) × (length_in r ≤ 65535)
      go (yes h) k = rw (sw h).0 (omega arith, omega arith)
      go (no h) (yes k) = rw (ss (omega arith) k).0 (omega arith, omega arith)
      go (no h) (no k) = small a slip l _ (called (omega arith) (omega arith))

  pub lent_bytes : {after : List ℕ} → after ≡ left zeroed_bytes (number_in r) work → {number : ℕ} → number ≡ 65536 * number_in r + length_in r
      → record { number = number; work = after; slip = out } ≡ bytes_outcome (bytes_enough work slip a) work slip
  unfolding left is_zeroed
  lent_bytes {after} z {number} n = go (dec_lt (length work) 65536) (dec_lt (length slip) 1200)
    where
      go : Dec (length work < 65536) → Dec (length slip < 1200) → record { number = number; work = after; slip = out } ≡ bytes_outcome (bytes_enough work slip a) work slip
      go (yes h) k = rw (n, z, (sw h).0, (sw h).1) (short_bytes a work slip h)
      go (no h) (yes k) = let g : 65536 ≤ length work = omega arith in rw (n, z, (ss g k).0, (ss g k).1) (short_slip a work slip g k)
      go (no h) (no k) =
          let g : 65536 ≤ length work = omega arith in
          let f : 1200 ≤ length slip = omega arith in
          in_bytes a work slip g f l (record { number = number_in r; length = length_in r; out = out }) (called g f) refl n z
