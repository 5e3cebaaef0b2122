-- Which refusals check has, so that whatever it answers fits the one number of a call. Assumes nothing.
use Prim.Native.Nat.{ℕ, ◌≤◌}
use mathlib.Core.Path.{◌≡◌, refl}
use mathlib.Core.Logic.{◌⊎◌, inl, inr}
use mathlib.Core.Bool.{Bool, true, ◌&&◌}
use mathlib.Core.List.{List, [], ◌∷◌}
use native.Mathlib.Omega.{arith}
use lib.ListN.{length}
use lib.Dec.{ltb, leb}
use borrow.Author.Tests.{leb-true}
use Rattle.lists.proofs.TestLaws.{pick_either}
use Rattle.lists.specs.Lists.{member, every}
use Rattle.varint.specs.Varint.{Read, got, refuse, after, number}
use Rattle.sheet.proofs.RefusalLaws.{AmongThese, these_fit, Refusing, after_refusing, taken_refusing_these}
use Rattle.sheet.specs.Lent.{work_numbers}
use Rattle.sheet.specs.Reader.{taken}
use Rattle.sheet.specs.Slip.{Slip, read_slip, slip_goals, as17}
use Rattle.check_rules.specs.Check.{well_formed, holds, judged_on, check_on, check_outcome, checked}

-- check's own refusals
abbrev pub check_refusals : List ℕ
check_refusals = 17 ∷ 18 ∷ []

-- yes or no, or a sheet's refusal, or one of check's own
abbrev pub Drawn : Read Bool → Type 0
Drawn r = Refusing (AmongThese check_refusals) r

-- a slip that is badly written draws 17, which whoever reads slips has among his own
pub slip_refusing : (own slip : List ℕ) → member 17 own ≡ true → Refusing (AmongThese own) (read_slip slip)
unfolding read_slip as17
slip_refusing own slip m = go (after (number 17 (λ x. leb 1 x && leb x 4) slip) slip_goals)
  where
    go : (r : Read Slip) → Refusing (AmongThese own) (as17 r)
    go (got s rest) = tt
    go (refuse e) = inr m

pub check_drawn : (sheet slip : List ℕ) → Drawn (check_on sheet slip)
unfolding check_on judged_on member
check_drawn sheet slip =
    after_refusing (AmongThese check_refusals) (taken sheet) (λ S rest. after (read_slip slip) (judged_on S)) (taken_refusing_these check_refusals sheet)
    (λ S rest. after_refusing (AmongThese check_refusals) (read_slip slip) (judged_on S) (slip_refusing check_refusals slip refl)
    (λ s rest. pick_either (Refusing (AmongThese check_refusals)) (well_formed S s) (got (holds S s) rest) (refuse _) tt (inr refl)))

-- none of them is 0, and all fit the one number of a call
pub drawn_fits : {e : ℕ} → AmongThese check_refusals e → (1 ≤ e) × (e ≤ 18)
drawn_fits d = these_fit check_refusals 18 refl (omega arith) d

-- the numbers that a call of check gives: 0 where it finishes, and 1 where it is lent too little work
abbrev pub CheckNumber : ℕ → Type 0
CheckNumber e = (e ≤ 1) ⊎ AmongThese check_refusals e

-- Check refuses with 1, 3 to 13, 17 and 18 and with no other number.
pub check_refuses : (sheet work slip : List ℕ) → CheckNumber (checked sheet work slip).number
unfolding checked check_outcome
check_refuses sheet work slip =
    pick_either (λ (r : Read Bool). CheckNumber (check_outcome r work).number) (ltb (length work) work_numbers) (refuse _) (check_on sheet slip) (inl (leb-true _ 1 refl))
    (go (check_on sheet slip) (check_drawn sheet slip))
  where
    go : (r : Read Bool) → Drawn r → CheckNumber (check_outcome r work).number
    go (got answer rest) d = inl (omega arith)
    go (refuse e) d = inr d
