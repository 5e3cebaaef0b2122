-- What check gives and leaves, from its parts. Assumes nothing.
use Prim.Native.Nat.{ℕ, ◌≤◌, ◌<◌}
use mathlib.Core.Path.{◌≡◌, refl}
use mathlib.Core.Bool.{Bool, true, false}
use mathlib.Core.List.{List, []}
use native.Mathlib.Omega.{arith}
use native.Mathlib.Decide.{dec_lt}
use lib.ListN.{length}
use lib.Dec.{ltb}
use borrow.Author.Tests.{lt-ltb, le-ltb}
use Rattle.std.specs.Prelude.{Result, Ok, Err, IfOk, IfErr}
use Rattle.varint.specs.declared.refusal.Refusal.{Refusal}
use Rattle.varint.specs.declared.refusal.Refusal.TheVariants.{ShortWork}
use Rattle.varint.specs.Refusal.{number_of, number_in}
use Rattle.varint.specs.Varint.{Read, got, refuse, after}
use Rattle.sheet.specs.Sheet.{Sheet}
use Rattle.sheet.specs.Slip.{Slip, read_slip}
use Rattle.sheet.specs.Reader.{taken}
use Rattle.sheet.specs.Lent.{zeroed, work_after}
use Rattle.work.proofs.LeftLaws.{left_finished, left_refused}
use Rattle.work.specs.Left.{left, is_zeroed}
use Rattle.check_rules.proofs.WithinLaws.{Drawn, check_drawn, drawn_fits}
use Rattle.check_rules.specs.Check.{judged_on, check_on, CheckOutcome, check_outcome, yes_in, checked}

-- what a slip that is well written draws
pub form_judged : (S : Sheet) (slip : List ℕ) {s : Slip} → read_slip slip ≡ got s [] → after (read_slip slip) (judged_on S) ≡ judged_on S s []
unfolding after
form_judged S slip q = rw q

-- the result's number and yes, and the work
abbrev given : Result Bool Refusal → List ℕ → CheckOutcome
given a work = record { number = number_in a; yes = yes_in a; work = work }

-- the work is left by the refusal number
given_is : (work : List ℕ) (a : Result Bool Refusal) (r : Read Bool) → Drawn r → IfOk a (λ answer. r ≡ got answer []) → IfErr a (λ why. r ≡ refuse (number_of why))
    → given a (left zeroed (number_in a) work) ≡ check_outcome r work
unfolding check_outcome work_after
given_is work (Ok answer) r d e f = rw (e, left_finished zeroed work)
given_is work (Err why) r d e f =
    let d' : Drawn (refuse (number_of why)) = rw f at d in
    rw (f, left_refused zeroed work (number_of why) (λ z. absurd (omega (arith, (drawn_fits d').0))))

module _ (sheet work slip : List ℕ) where
  -- 1
  pub checked_short : length work < 16384 → record { number = 1; yes = false; work = work } ≡ checked sheet work slip
  unfolding checked check_outcome work_after
  checked_short h = let z : ltb (length work) 16384 ≡ true = lt-ltb (length work) 16384 h in rw z

  -- what sheet and slip draw, with the work left by that
  pub checked_left : 16384 ≤ length work → (a : Result Bool Refusal) → IfOk a (λ answer. check_on sheet slip ≡ got answer []) → IfErr a (λ why. check_on sheet slip ≡ refuse (number_of why))
      → {n : ℕ} → n ≡ number_in a → {after : List ℕ} → after ≡ left zeroed n work → record { number = number_in a; yes = yes_in a; work = after } ≡ checked sheet work slip
  unfolding checked
  checked_left h a e f p z = rw (z, p, le-ltb (length work) 16384 h) (given_is work a (check_on sheet slip) (check_drawn sheet slip) e f)

  -- a call that has enough work, or else is refused
  pub checked_lent : (a : Result Bool Refusal) {after : List ℕ} → (length work < 16384 → a ≡ Err ShortWork)
      → (16384 ≤ length work → IfOk a (λ answer. check_on sheet slip ≡ got answer []) × IfErr a (λ why. check_on sheet slip ≡ refuse (number_of why)))
      → after ≡ left zeroed (number_in a) work → record { number = number_in a; yes = yes_in a; work = after } ≡ checked sheet work slip
  unfolding left is_zeroed
  checked_lent a {after} short called z = go (dec_lt (length work) 16384)
    where
      go : Dec (length work < 16384) → record { number = number_in a; yes = yes_in a; work = after } ≡ checked sheet work slip
      go (yes h) = rw (z, short h) (checked_short h)
      go (no h) = let l : 16384 ≤ length work = omega arith in checked_left l a (called l).0 (called l).1 refl z

-- what check answers to a sheet that is refused, and to one that is taken
pub bad_sheet : (sheet slip : List ℕ) (w : ℕ) → taken sheet ≡ refuse w → check_on sheet slip ≡ refuse w
unfolding check_on after
bad_sheet sheet slip w e = rw e

pub good_sheet : (sheet slip : List ℕ) (S : Sheet) → taken sheet ≡ got S [] → check_on sheet slip ≡ after (read_slip slip) (judged_on S)
unfolding check_on after
good_sheet sheet slip S e = rw e
