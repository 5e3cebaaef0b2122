-- Results with a refusal: those that are the same have the same refusal, and a finished one is no refusal. Assumes nothing.
use Prim.Native.Nat.{ℕ}
use mathlib.Core.Path.{◌≡◌, ap}
use native.Mathlib.Omega.{arith}
use Rattle.std.specs.Prelude.{Result, Ok, Err, IsErrAnd}
use Rattle.varint.specs.declared.refusal.Refusal.{Refusal}
use Rattle.varint.specs.declared.refusal.Refusal.TheVariants.{ShortWork, ShortSlip, Ends, Overlong, Nodes, Arcs, Place, Limit, ArcEnd, Minutes, Mark}
use Rattle.varint.specs.declared.refusal.Refusal.TheVariants.{Rest, Required, NoItem, NotStruck, BadSlip, BadClaim, ShortSheet, NotShelved, OtherMap, Full}
use Rattle.varint.specs.Refusal.{number_of}

pub err_same : {A : Type 0} {v w : Refusal} → ◌≡◌ {A = Result A Refusal} (Err v) (Err w) → v ≡ w
err_same e = cc

pub ok_same : {A : Type 0} {x y : A} → ◌≡◌ {A = Result A Refusal} (Ok x) (Ok y) → x ≡ y
ok_same e = cc

pub ok_not_err : {A : Type 0} {x : A} {w : Refusal} → ◌≡◌ {A = Result A Refusal} (Ok x) (Err w) → ⊥
ok_not_err e = let z : ◌≡◌ {A = ℕ} 0 1 = cc in omega arith

-- what a refusal is handed on as
pub err_given : {A : Type 0} (r : Result A Refusal) (why : Refusal) → IsErrAnd r (λ y. y ≡ why) → r ≡ Err why
err_given (Ok x) why b = absurd b
err_given (Err y) why b = ap Err b

-- no refusal has the number of a finished call
pub number_positive : (why : Refusal) → number_of why ≡ 0 → ⊥
number_positive ShortWork e = absurd (omega (arith, e))
number_positive ShortSlip e = absurd (omega (arith, e))
number_positive Ends e = absurd (omega (arith, e))
number_positive Overlong e = absurd (omega (arith, e))
number_positive Nodes e = absurd (omega (arith, e))
number_positive Arcs e = absurd (omega (arith, e))
number_positive Place e = absurd (omega (arith, e))
number_positive Limit e = absurd (omega (arith, e))
number_positive ArcEnd e = absurd (omega (arith, e))
number_positive Minutes e = absurd (omega (arith, e))
number_positive Mark e = absurd (omega (arith, e))
number_positive Rest e = absurd (omega (arith, e))
number_positive Required e = absurd (omega (arith, e))
number_positive NoItem e = absurd (omega (arith, e))
number_positive NotStruck e = absurd (omega (arith, e))
number_positive BadSlip e = absurd (omega (arith, e))
number_positive BadClaim e = absurd (omega (arith, e))
number_positive ShortSheet e = absurd (omega (arith, e))
number_positive NotShelved e = absurd (omega (arith, e))
number_positive OtherMap e = absurd (omega (arith, e))
number_positive Full e = absurd (omega (arith, e))
