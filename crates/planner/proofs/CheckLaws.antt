-- What check gives and leaves over bytes, from what it answers, as for pass and reason. Assumes nothing.
use Prim.Native.Nat.{ℕ, ◌+◌, ◌*◌, ◌≤◌, ◌<◌}
use mathlib.Core.Path.{◌≡◌, refl, sym, ap}
use native.Mathlib.Decide.{dec_lt}
use mathlib.Core.Bool.{Bool, true, false}
use mathlib.Core.List.{List, []}
use native.Mathlib.Omega.{arith}
use lib.ListN.{length}
use borrow.Author.Tests.{lt-ltb, le-ltb}
use Rattle.std.specs.Prelude.{Result, Ok, Err, IfOk, IfErr}
use Rattle.varint.specs.declared.refusal.Refusal.{Refusal}
use Rattle.varint.specs.declared.refusal.Refusal.TheVariants.{ShortWork}
use Rattle.varint.specs.Refusal.{number_of, number_in}
use Rattle.varint.specs.Varint.{Read, got, refuse}
use Rattle.check_rules.proofs.WithinLaws.{Drawn, check_drawn, drawn_fits}
use Rattle.check_rules.specs.Check.{check_on, yes_in}
use Rattle.work.proofs.LeftLaws.{left_finished, left_refused}
use Rattle.work.specs.Bytes.{zeroed_bytes, bytes_after}
use Rattle.work.specs.Left.{left, is_zeroed}
use Rattle.planner.specs.Check.{CheckBytesOutcome, check_bytes_outcome, yes_number, checked_bytes}

-- the one number, and the bytes left by the refusal number
abbrev told : Result Bool Refusal → List ℕ → CheckBytesOutcome
told a work = record { number = 65536 * number_in a + yes_number (yes_in a); work = left zeroed_bytes (number_in a) work }

told_is : (work : List ℕ) (a : Result Bool Refusal) (r : Read Bool) → Drawn r → IfOk a (λ answer. r ≡ got answer []) → IfErr a (λ why. r ≡ refuse (number_of why))
    → told a work ≡ check_bytes_outcome r work
unfolding check_bytes_outcome bytes_after
told_is work (Ok answer) r d e f =
    rw (e, left_finished zeroed_bytes work) (ap (λ (n : ℕ). record { number = n; work = zeroed_bytes work }) (omega arith))
told_is work (Err why) r d e f =
    let d' : Drawn (refuse (number_of why)) = rw f at d in
    rw (f, left_refused zeroed_bytes work (number_of why) (λ z. absurd (omega (arith, (drawn_fits d').0)))) (ap (λ (n : ℕ). record { number = n; work = bytes_after (number_of why) work }) (omega arith))

module _ (sheet work slip : List ℕ) where
  -- 1: too few bytes of work
  pub short_check : length work < 65536 → record { number = 65536; work = work } ≡ checked_bytes sheet work slip
  unfolding checked_bytes check_bytes_outcome bytes_after
  short_check h = rw (lt-ltb (length work) 65536 h)

  module _ (a : Result Bool Refusal) (e : IfOk a (λ answer. check_on sheet slip ≡ got answer [])) (f : IfErr a (λ why. check_on sheet slip ≡ refuse (number_of why))) {n l : ℕ} (p : n ≡ number_in a) (q : l ≡ yes_number (yes_in a)) where
    pub check_in_bytes : 65536 ≤ length work → {number m : ℕ} {after : List ℕ} → number ≡ 65536 * n + l → m ≡ n → after ≡ left zeroed_bytes m work
        → record { number = number; work = after } ≡ checked_bytes sheet work slip
    unfolding checked_bytes
    check_in_bytes h z y x = rw (z, x, y, p, q, le-ltb (length work) 65536 h) (told_is work a (check_on sheet slip) (check_drawn sheet slip) e f)

    -- the one number fits
    pub check_small : (n ≤ 27) × (l ≤ 65535)
    check_small = rw (p, q) (go a f)
      where
        go : (a : Result Bool Refusal) → IfErr a (λ why. check_on sheet slip ≡ refuse (number_of why)) → (number_in a ≤ 27) × (yes_number (yes_in a) ≤ 65535)
        go (Ok true) f = (omega arith, omega arith)
        go (Ok false) f = (omega arith, omega arith)
        go (Err why) f =
            let d = check_drawn sheet slip in
            let d' : Drawn (refuse (number_of why)) = rw f at d in
            (omega (arith, (drawn_fits d').1), omega arith)

-- what a call answers that is lent work, however much
module _ (sheet work slip : List ℕ) {a : Result Bool Refusal} (short : length work < 65536 → a ≡ Err ShortWork)
    (called : 65536 ≤ length work → IfOk a (λ answer. check_on sheet slip ≡ got answer []) × IfErr a (λ why. check_on sheet slip ≡ refuse (number_of why)))
    {n l : ℕ} (p : n ≡ number_in a) (q : l ≡ yes_number (yes_in a)) where
  pub lent_small : (n ≤ 27) × (l ≤ 65535)
  lent_small = go (dec_lt (length work) 65536)
    where
      go : Dec (length work < 65536) → (n ≤ 27) × (l ≤ 65535)
      go (yes h) = rw (p, q, short h) (omega arith, omega arith)
      go (no h) = let c = called (omega arith) in check_small sheet work slip a c.0 c.1 p q

  pub lent_bytes : {after : List ℕ} → after ≡ left zeroed_bytes (number_in a) work → {number : ℕ} → number ≡ 65536 * n + l
      → record { number = number; work = after } ≡ checked_bytes sheet work slip
  unfolding left is_zeroed
  lent_bytes {after} z {number} e = go (dec_lt (length work) 65536)
    where
      go : Dec (length work < 65536) → record { number = number; work = after } ≡ checked_bytes sheet work slip
      go (yes h) = rw (e, z, p, q, short h) (short_check sheet work slip h)
      go (no h) = let g : 65536 ≤ length work = omega arith in let c = called g in check_in_bytes sheet work slip a c.0 c.1 p q g e (sym p) z
