-- The layer answers and leaves what copying the work in, running the operation over those numbers and copying them out would: numbers made of bytes give these
-- bytes back, and numbers that are zero give bytes that are zero. Assumes nothing.
use Prim.Native.Nat.{ℕ, zero, suc, ◌+◌, ◌*◌, ◌≤◌, ◌<◌, ◌/◌, ◌%◌}
use mathlib.Core.Path.{◌≡◌, refl, sym, ap, ◌∙◌}
use mathlib.Core.Bool.{Bool, true, false}
use mathlib.Core.List.{List, [], ◌∷◌, ◌++◌, append-nil}
use native.Mathlib.Omega.{arith}
use lib.ListN.{length, take, drop, drop_of_length-le, take-append-drop}
use lib.Seq.{length-take-le}
use lib.Dec.{leb, ltb}
use borrow.Author.Tests.{le-ltb}
use Rattle.lists.proofs.Pigeonhole.{Below}
use Rattle.lists.specs.Lists.{pick, front}
use Rattle.reason_rules.specs.Reason.{reason_on, reasoned}
use Rattle.sheet.specs.Lent.{zeros, zeroed, work_after}
use Rattle.varint.specs.Varint.{Read, got, refuse}
use Rattle.pass_rules.specs.Pass as pass
use Rattle.sheet.specs.Answer.{Answer, finished, refused}
use Rattle.pass_rules.specs.Pass.{pass_on, passed}
use Rattle.check_rules.specs.Check as check
use Rattle.check_rules.specs.Check.{check_on, checked}
use Rattle.planner.specs.Copied.{numbers_of, work_bytes_of, copied_out, check_copied_out}
use Rattle.work.proofs.ZeroLaws.{length_zeros}
use Rattle.work.specs.Bytes.{zeroed_bytes, bytes_after}
use Rattle.planner.specs.Layer.{bytes_outcome, bytes_enough, passed_bytes, reasoned_bytes}
use Rattle.planner.specs.Check.{check_bytes_outcome, checked_bytes}

-- a number made of four bytes gives them back
number_back : (a b c d : ℕ) (xs : List ℕ) → a < 256 → b < 256 → c < 256 → d < 256
    → work_bytes_of ((a + 256 * b + 65536 * c + 16777216 * d) ∷ xs) ≡ a ∷ b ∷ c ∷ d ∷ work_bytes_of xs
unfolding work_bytes_of
number_back a b c d xs p q r s =
    let x = a + 256 * b + 65536 * c + 16777216 * d in
    let e : x % 256 ≡ a = omega arith in
    let f : x / 256 ≡ b + 256 * c + 65536 * d = omega arith in
    let g : x / 65536 ≡ c + 256 * d = omega arith in
    let h : x / 16777216 ≡ d = omega arith in
    let f₁ : x / 256 % 256 ≡ b = rw f (omega arith) in
    let g₁ : x / 65536 % 256 ≡ c = rw g (omega arith) in
    let h₁ : x / 16777216 % 256 ≡ d = rw h (omega arith) in
    rw (e, f₁, g₁, h₁)

bytes_back : (k : ℕ) (bytes : List ℕ) → Below 256 bytes → 4 * k ≤ length bytes → work_bytes_of (numbers_of k bytes) ≡ take (4 * k) bytes
unfolding numbers_of work_bytes_of
bytes_back zero bytes b h = refl
bytes_back (suc k) [] b h = absurd (omega arith)
bytes_back (suc k) (w ∷ []) b h = absurd (omega arith)
bytes_back (suc k) (w ∷ x ∷ []) b h = absurd (omega arith)
bytes_back (suc k) (w ∷ x ∷ y ∷ []) b h = absurd (omega arith)
bytes_back (suc k) (w ∷ x ∷ y ∷ z ∷ bytes) b h =
    let n : 4 * suc k ≡ suc (suc (suc (suc (4 * k)))) = omega arith in
    number_back w x y z (numbers_of k bytes) b.0 b.1.0 b.1.1.0 b.1.1.1.0
    ∙ ap (λ (xs : List ℕ). w ∷ x ∷ y ∷ z ∷ xs) (bytes_back k bytes b.1.1.1.1 (omega arith))
    ∙ ap (λ (j : ℕ). take j (w ∷ x ∷ y ∷ z ∷ bytes)) (sym n)

length_numbers : (k : ℕ) (bytes : List ℕ) → length (numbers_of k bytes) ≡ k
unfolding numbers_of
length_numbers zero bytes = refl
length_numbers (suc k) bytes = ap suc (length_numbers k (drop 4 bytes))

bytes_zeros : (k : ℕ) → work_bytes_of (zeros k) ≡ zeros (4 * k)
unfolding work_bytes_of zeros
bytes_zeros zero = refl
bytes_zeros (suc k) =
    let n : 4 * suc k ≡ suc (suc (suc (suc (4 * k)))) = omega arith in
    ap (λ (xs : List ℕ). 0 ∷ 0 ∷ 0 ∷ 0 ∷ xs) (bytes_zeros k) ∙ ap zeros (sym n)

front_zeros : (k : ℕ) (work : List ℕ) → front (work_bytes_of (zeros k)) work ≡ zeros (4 * k) ++ drop (4 * k) work
front_zeros k work = rw (bytes_zeros k, length_zeros (4 * k))

module _ (work : List ℕ) (h : 65536 ≤ length work) (b : Below 256 work) where
  -- the work, copied in
  abbrev numbers : List ℕ
  numbers = numbers_of 16384 work

  zeroed_numbers : zeroed numbers ≡ zeros 16384
  unfolding zeroed
  zeroed_numbers =
      let n : drop 16384 numbers ≡ [] = drop_of_length-le numbers {i = 16384} (omega (arith, length_numbers 16384 work)) in
      rw n (append-nil (zeros 16384))

  zero_out : front (work_bytes_of (zeroed numbers)) work ≡ zeroed_bytes work
  unfolding zeroed_bytes
  zero_out = ap (λ (xs : List ℕ). front (work_bytes_of xs) work) zeroed_numbers ∙ front_zeros 16384 work

  same_out : front (work_bytes_of numbers) work ≡ work
  same_out =
      let e : work_bytes_of numbers ≡ take 65536 work = bytes_back 16384 work b h in
      ap (λ (xs : List ℕ). front xs work) e ∙ ap (λ (k : ℕ). take 65536 work ++ drop k work) (length-take-le 65536 work h) ∙ take-append-drop 65536 work

  refused_out : (e : ℕ) → front (work_bytes_of (work_after e numbers)) work ≡ bytes_after e work
  unfolding work_after bytes_after
  refused_out e = go (leb e 13)
    where
      go : (t : Bool) → front (work_bytes_of (pick t numbers (zeroed numbers))) work ≡ pick t work (zeroed_bytes work)
      go true = same_out
      go false = zero_out

  numbers_lent : 16384 ≤ length numbers
  numbers_lent = omega (arith, length_numbers 16384 work)

  -- what an answer leaves over numbers, copied out, is what it leaves over bytes
  answer_out : (slip : List ℕ) (a : Answer) → copied_out (pass.outcome a numbers slip) work ≡ bytes_outcome a work slip
  unfolding pass.outcome bytes_outcome
  answer_out slip (finished bytes) = rw zero_out (ap (λ (n : ℕ). record { number = n; work = zeroed_bytes work; slip = front bytes slip }) (omega arith))
  answer_out slip (refused e) = rw (refused_out e) (ap (λ (n : ℕ). record { number = n; work = bytes_after e work; slip = slip }) (omega arith))

  copied : (slip : List ℕ) (a : Answer) → bytes_outcome (bytes_enough work slip a) work slip ≡ copied_out (pass.outcome (pass.lent_enough numbers slip a) numbers slip) work
  unfolding pass.lent_enough bytes_enough
  copied slip a = rw (le-ltb (length numbers) 16384 numbers_lent, le-ltb (length work) 65536 h) (sym (answer_out slip (pick (ltb (length slip) 1200) (refused 2) a)))

  check_out : (r : Read Bool) → check_copied_out (check.check_outcome r numbers) work ≡ check_bytes_outcome r work
  unfolding check.check_outcome check_bytes_outcome
  check_out (got answer rest) = rw zero_out (ap (λ (n : ℕ). record { number = n; work = zeroed_bytes work }) (omega arith))
  check_out (refuse e) = rw (refused_out e) (ap (λ (n : ℕ). record { number = n; work = bytes_after e work }) (omega arith))

  pub pass_copied : (sheet slip : List ℕ) → passed_bytes sheet work slip ≡ copied_out (passed sheet (numbers_of 16384 work) slip) work
  unfolding passed_bytes passed
  pass_copied sheet slip = copied slip (pass_on sheet)

  pub reason_copied : (sheet slip : List ℕ) (i : ℕ) → reasoned_bytes sheet work slip i ≡ copied_out (reasoned sheet (numbers_of 16384 work) slip i) work
  unfolding reasoned_bytes reasoned
  reason_copied sheet slip i = copied slip (reason_on sheet i)

  pub check_copied : (sheet slip : List ℕ) → checked_bytes sheet work slip ≡ check_copied_out (checked sheet (numbers_of 16384 work) slip) work
  unfolding checked_bytes checked
  check_copied sheet slip = rw (le-ltb (length numbers) 16384 numbers_lent, le-ltb (length work) 65536 h) (sym (check_out (check_on sheet slip)))
