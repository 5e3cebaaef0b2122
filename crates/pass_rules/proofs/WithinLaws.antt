-- Which refusals pass has, and that whatever it answers fits the one number of a call. Assumes nothing.
use Prim.Native.Nat.{ℕ, ◌≤◌}
use mathlib.Core.Path.{◌≡◌, refl, ap}
use mathlib.Core.Logic.{◌↔◌}
use mathlib.Core.List.{List, []}
use native.Mathlib.Omega.{arith}
use lib.ListN.{length}
use lib.Dec.{ltb}
use borrow.Author.Tests.{leb-true}
use Rattle.lists.proofs.TestLaws.{pick_either}
use Rattle.sheet.proofs.AnswerLaws.{answer_took}
use Rattle.sheet.proofs.RefusalLaws.{taken_refuses}
use Rattle.sheet.proofs.SheetLaws.{taken_got, taken_good}
use Rattle.sheet.specs.Answer.{Answer, finished, refused, answer_of}
use Rattle.sheet.specs.Lent.{work_numbers}
use Rattle.sheet.specs.Reader.{taken}
use Rattle.sheet.specs.Sheet.{Sheet}
use Rattle.varint.specs.Varint.{Read, got, refuse, after}
use Rattle.pass_rules.proofs.SlipOfPass.{pass_slip_size}
use Rattle.pass_rules.specs.Pass.{outcome, lent_enough, pass_on, passed}
use Rattle.pass_rules.specs.Verdict.{verdict, pass_slip}

-- pass draws exactly what the sheet does
pub pass_refused : (sheet : List ℕ) (e : ℕ) → (pass_on sheet ≡ refused e) ↔ (taken sheet ≡ refuse e)
unfolding pass_on answer_of after
pass_refused sheet e = (forth (taken sheet), λ z. rw z)
  where
    forth : (r : Read Sheet) → answer_of (after r (λ S rest. got (pass_slip S (verdict S)) rest)) ≡ refused e → r ≡ refuse e
    forth (got S rest) z = absurd (let y : ◌≡◌ {A = ℕ} 0 1 = cc in omega arith)
    forth (refuse w) z = let y : w ≡ e = cc in ap refuse y

-- and finishes on a taken sheet alone
pub pass_took : (sheet slip : List ℕ) → pass_on sheet ≡ finished slip → (S : Sheet) × (taken sheet ≡ got S [])
unfolding pass_on
pass_took sheet slip e = answer_took sheet (λ S rest. got (pass_slip S (verdict S)) rest) slip e

-- a property of 0, 1, 2 and of whatever an operation refuses holds of the number that a call gives
pub call_number : (P : ℕ → Type 0) (a : Answer) (work slip : List ℕ) → ((e : ℕ) → e ≤ 2 → P e) → ((e : ℕ) → a ≡ refused e → P e)
    → P (outcome (lent_enough work slip a) work slip).number
unfolding outcome lent_enough
call_number P a work slip few own =
    pick_either (λ (a : Answer). P (outcome a work slip).number) (ltb (length work) work_numbers) (refused _) _ (few _ (leb-true _ 2 refl))
    (pick_either (λ (a : Answer). P (outcome a work slip).number) (ltb (length slip) 1200) (refused _) a (few _ (leb-true _ 2 refl)) (go a own))
  where
    go : (a : Answer) → ((e : ℕ) → a ≡ refused e → P e) → P (outcome a work slip).number
    go (finished bytes) own = few 0 (omega arith)
    go (refused e) own = own e refl

-- Pass refuses with 1 to 13 and with no other number; 0 is a call that finished.
pub pass_refuses : (sheet work slip : List ℕ) → (passed sheet work slip).number ≤ 13
unfolding passed
pass_refuses sheet work slip =
    call_number (λ e. e ≤ 13) (pass_on sheet) work slip (λ e h. omega arith) (λ e z. (taken_refuses sheet e ((pass_refused sheet e).0 z)).1)

-- what the one number of a call has to hold: a slip of at most 1,200 bytes, or a refusal that is not 0 and at most reason's greatest
abbrev pub Within : Answer → Type 0
Within (finished bytes) = length bytes ≤ 1200
Within (refused e) = (1 ≤ e) × (e ≤ 16)

pub pass_within : (sheet : List ℕ) → Within (pass_on sheet)
unfolding pass_on answer_of after
pass_within sheet = go (taken sheet) refl
  where
    go : (r : Read Sheet) → taken sheet ≡ r → Within (answer_of (after r (λ S rest. got (pass_slip S (verdict S)) rest)))
    go (got S rest) e = (pass_slip_size S (taken_good sheet S rest e) (taken_got sheet S rest e).0.few).0
    go (refuse v) e = let b = taken_refuses sheet v e in (omega (arith, b.0), omega (arith, b.1))
