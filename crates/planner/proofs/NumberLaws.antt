-- Which refusals the one number of a C function holds, 65,536 times the refusal and less than 65,536 more: those of its operation and no other.
-- Assumes nothing.
use Prim.Native.Nat.{ℕ, ◌+◌, ◌*◌, ◌/◌, ◌≤◌, ◌<◌}
use mathlib.Core.Path.{◌≡◌, refl, sym, subst}
use mathlib.Core.Logic.{◌⊎◌, inl, inr}
use mathlib.Core.Bool.{Bool, true, false}
use mathlib.Core.List.{List}
use native.Mathlib.Omega.{arith}
use lib.ListN.{length}
use lib.Dec.{ltb}
use Rattle.lists.proofs.TestLaws.{pick_either}
use Rattle.varint.specs.Varint.{Read, got, refuse}
use Rattle.sheet.proofs.RefusalLaws.{AmongThese, Refusing, taken_refuses}
use Rattle.sheet.proofs.SizeLaws.{written_size}
use Rattle.sheet.specs.Answer.{Answer, finished, refused}
use Rattle.sheet.specs.Draft.{Draft}
use Rattle.sheet.specs.Writer.{sheet_written}
use Rattle.pass_rules.proofs.WithinLaws.{Within, pass_refused, pass_within}
use Rattle.pass_rules.specs.Pass.{pass_on}
use Rattle.reason_rules.proofs.WithinLaws.{ReasonNumber, reason_refused, reason_within}
use Rattle.reason_rules.specs.Reason.{reason_on}
use Rattle.check_rules.proofs.WithinLaws.{Drawn, CheckNumber, check_drawn}
use Rattle.check_rules.specs.Check.{check_on}
use Rattle.sheet.specs.Slip.{slip_bytes}
use Rattle.store_rules.proofs.PutLaws.{put_refusals, ask_refusals, PutNumber, AskNumber, put_drawn, ask_drawn}
use Rattle.store_rules.specs.Shelf.{Nogood, Shelf, slip_of, Found, missing, found}
use Rattle.store_rules.specs.Store.{put_on, ask_on, Reached}
use Rattle.store_bytes.proofs.BytesLaws.{asked_size}
use Rattle.store_bytes.specs.Bytes.{put_bytes_outcome, put_bytes, ask_bytes_outcome, ask_bytes}
use Rattle.work.specs.Bytes.{work_bytes}
use Rattle.planner.specs.Layer.{bytes_outcome, bytes_enough, passed_bytes, reasoned_bytes}
use Rattle.planner.specs.Check.{check_bytes_outcome, checked_bytes}
use Rattle.planner.specs.Write.{one_number, written_number}

-- the refusal is how often 65,536 goes into the number
held : (P : ℕ → Type 0) (e number : ℕ) → 65536 * e ≤ number → number < 65536 * e + 65536 → P e → P (number / 65536)
held P e number low high p = let q : number / 65536 ≡ e = omega arith in subst P (sym q) p

-- of a refused call the number is just that
refused_holds : (P : ℕ → Type 0) (e : ℕ) → P e → P (65536 * e / 65536)
refused_holds P e p = held P e (65536 * e) (omega arith) (omega arith) p

-- a property of 0, 1, 2 and of whatever pass or reason refuse holds of the refusal
bytes_number : (P : ℕ → Type 0) (a : Answer) (work slip : List ℕ) → Within a → ((e : ℕ) → e ≤ 2 → P e) → ((e : ℕ) → a ≡ refused e → P e)
    → P ((bytes_outcome (bytes_enough work slip a) work slip).number / 65536)
unfolding bytes_outcome bytes_enough
bytes_number P a work slip l few own =
    pick_either (λ (a : Answer). P ((bytes_outcome a work slip).number / 65536)) (ltb (length work) work_bytes) (refused 1) _ (refused_holds P 1 (few 1 (omega arith)))
    (pick_either (λ (a : Answer). P ((bytes_outcome a work slip).number / 65536)) (ltb (length slip) 1200) (refused 2) a (refused_holds P 2 (few 2 (omega arith))) (go a l own))
  where
    go : (a : Answer) → Within a → ((e : ℕ) → a ≡ refused e → P e) → P ((bytes_outcome a work slip).number / 65536)
    go (finished bytes) l own = held P 0 (length bytes) (omega arith) (omega arith) (few 0 (omega arith))
    go (refused e) l own = refused_holds P e (own e refl)

pub pass_one_number : (sheet work slip : List ℕ) → (passed_bytes sheet work slip).number / 65536 ≤ 13
unfolding passed_bytes
pass_one_number sheet work slip =
    bytes_number (λ e. e ≤ 13) (pass_on sheet) work slip (pass_within sheet) (λ e h. omega arith) (λ e z. (taken_refuses sheet e ((pass_refused sheet e).0 z)).1)

pub reason_one_number : (sheet work slip : List ℕ) (i : ℕ) → ReasonNumber ((reasoned_bytes sheet work slip i).number / 65536)
unfolding reasoned_bytes
reason_one_number sheet work slip i =
    bytes_number ReasonNumber (reason_on sheet i) work slip (reason_within sheet i) (λ e h. inl h) (λ e z. inr (reason_refused sheet i e z))

pub check_one_number : (sheet work slip : List ℕ) → CheckNumber ((checked_bytes sheet work slip).number / 65536)
unfolding checked_bytes check_bytes_outcome
check_one_number sheet work slip =
    pick_either (λ (r : Read Bool). CheckNumber ((check_bytes_outcome r work).number / 65536)) (ltb (length work) work_bytes) (refuse 1) (check_on sheet slip)
    (refused_holds CheckNumber 1 (inl (omega arith))) (go (check_on sheet slip) (check_drawn sheet slip))
  where
    go : (r : Read Bool) → Drawn r → CheckNumber ((check_bytes_outcome r work).number / 65536)
    go (got true rest) d = held CheckNumber 0 1 (omega arith) (omega arith) (inl (omega arith))
    go (got false rest) d = held CheckNumber 0 0 (omega arith) (omega arith) (inl (omega arith))
    go (refuse e) d = refused_holds CheckNumber e (inr d)

pub write_one_number : (d : Draft) (out : List ℕ)
    → ((written_number d out).number / 65536 ≤ 13) ⊎ ((written_number d out).number / 65536 ≡ 19)
unfolding written_number one_number
write_one_number d out =
    let s = written_size d out in
    held (λ e. (e ≤ 13) ⊎ (e ≡ 19)) (sheet_written d out).number _ (omega arith) (omega (arith, s.1)) s.0

pub put_one_number : (K : Shelf) (sheet work slip : List ℕ) → PutNumber ((put_bytes K sheet work slip).number / 65536)
unfolding put_bytes put_bytes_outcome
put_one_number K sheet work slip =
    pick_either (λ (r : Read Shelf). PutNumber ((put_bytes_outcome K r work).number / 65536)) (ltb (length work) work_bytes) (refuse 1) (put_on K sheet slip)
    (refused_holds PutNumber 1 (inl (omega arith))) (go (put_on K sheet slip) (put_drawn K sheet slip))
  where
    go : (r : Read Shelf) → Refusing (AmongThese put_refusals) r → PutNumber ((put_bytes_outcome K r work).number / 65536)
    go (got L rest) d = held PutNumber 0 0 (omega arith) (omega arith) (inl (omega arith))
    go (refuse e) d = refused_holds PutNumber e (inr d)

-- ask's own, and 2 of a slip that is too short
abbrev pub AskOneNumber : ℕ → Type 0
AskOneNumber e = (e ≡ 2) ⊎ AskNumber e

-- of a shelf that is reached
pub ask_one_number : (K : Shelf) → Reached K → (sheet slip : List ℕ) → AskOneNumber ((ask_bytes K sheet slip).number / 65536)
unfolding ask_bytes ask_bytes_outcome
ask_one_number K r sheet slip =
    pick_either (λ (r : Read Found). AskOneNumber ((ask_bytes_outcome r slip).number / 65536)) (ltb (length slip) 1200) (refuse 2) (ask_on K sheet)
    (refused_holds AskOneNumber 2 (inl refl)) (go (ask_on K sheet) (ask_drawn K sheet) (λ k rest e. (asked_size K sheet k rest r e).1))
  where
    go : (q : Read Found) → Refusing (AmongThese ask_refusals) q → ((k : Nogood) (rest : List ℕ) → q ≡ got (found k) rest → length (slip_bytes (slip_of k)) ≤ 51)
        → AskOneNumber ((ask_bytes_outcome q slip).number / 65536)
    go (got missing rest) d s = held AskOneNumber 0 0 (omega arith) (omega arith) (inr (inl refl))
    go (got (found k) rest) d s = held AskOneNumber 0 (length (slip_bytes (slip_of k))) (omega arith) (omega (arith, s k rest refl)) (inr (inl refl))
    go (refuse e) d s = refused_holds AskOneNumber e (inr (inr d))
