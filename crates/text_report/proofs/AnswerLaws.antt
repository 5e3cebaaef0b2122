-- From what a call of pass leaves, with a slip of 1,200 bytes, to what it answers and how that is printed. Assumes nothing.
use Prim.Native.Nat.{ℕ, ◌≤◌}
use mathlib.Core.Path.{◌≡◌, refl, ap, ◌∙◌}
use mathlib.Core.Bool.{Bool, true, false}
use mathlib.Core.List.{List, []}
use native.Mathlib.Omega.{arith}
use lib.ListN.{length}
use lib.Dec.{ltb}
use borrow.Author.Tests.{le-ltb}
use Rattle.lists.proofs.TestLaws.{pick_either}
use Rattle.lists.specs.Lists.{pick}
use Rattle.sheet.specs.Lent.{work_numbers}
use Rattle.sheet.specs.Answer.{Answer, finished, refused}
use Rattle.pass_rules.proofs.WithinLaws.{Within, pass_within}
use Rattle.pass_rules.proofs.WroteLaws.{Finished, outcome_wrote}
use Rattle.pass.proofs.OutcomeLaws.{refused_result, finished_result}
use Rattle.varint.specs.Refusal.{number_of, number_in, length_in}
use Rattle.varint.specs.declared.refusal.Refusal.{Refusal}
use Rattle.std.specs.Prelude.{Result, Ok, Err}
use Rattle.pass_rules.specs.Pass.{Outcome, outcome, lent_enough, pass_on, passed}
use Rattle.text_answer.specs.Text.{refused_text, slip_text, text, answer}

answer_within : (sheet work : List ℕ) → Within (answer sheet work)
unfolding answer
answer_within sheet work = pick_either Within (ltb (length work) work_numbers) (refused 1) (pass_on sheet) (omega arith, omega arith) (pass_within sheet)

-- a call with enough work that finishes passes the sheet
pub answer_finishes : (sheet work bs : List ℕ) → answer sheet work ≡ finished bs → pass_on sheet ≡ finished bs
unfolding answer
answer_finishes sheet work bs e = go (ltb (length work) work_numbers) e
  where
    go : (t : Bool) → pick t (refused 1) (pass_on sheet) ≡ finished bs → pass_on sheet ≡ finished bs
    go true z = absurd (let y : ◌≡◌ {A = ℕ} 0 1 = cc in omega arith)
    go false z = z

-- how an answer is printed
pub refused_text_lem : (sheet : List ℕ) {a : Answer} {n : ℕ} → a ≡ refused n → text sheet a ≡ refused_text n
unfolding text
refused_text_lem sheet e = rw e

pub finished_text : (sheet : List ℕ) {a : Answer} {bs : List ℕ} → a ≡ finished bs → text sheet a ≡ slip_text sheet bs
unfolding text
finished_text sheet e = rw e

module _ (sheet work d : List ℕ) (long : 1200 ≤ length d) (r : Result ℕ Refusal) {w s : List ℕ}
    (e : record { number = number_in r; length = length_in r; work = w; slip = s } ≡ passed sheet work d) where
  as_answered : record { number = number_in r; length = length_in r; work = w; slip = s } ≡ outcome (answer sheet work) work d
  unfolding passed lent_enough answer
  as_answered = rw (le-ltb (length d) 1200 long) at e

  pub work_left : w ≡ (outcome (answer sheet work) work []).work
  unfolding outcome
  work_left = ap (λ (o : Outcome). o.work) as_answered ∙ go (answer sheet work)
    where
      go : (a : Answer) → (outcome a work d).work ≡ (outcome a work []).work
      go (finished bs) = refl
      go (refused x) = refl

  pub refuses : {why : Refusal} → r ≡ Err why → answer sheet work ≡ refused (number_of why)
  refuses = refused_result d (outcome_wrote (answer sheet work) work d as_answered) (answer_within sheet work)

  pub finishes : {n : ℕ} → r ≡ Ok n → Finished (answer sheet work) s n
  finishes = finished_result d (outcome_wrote (answer sheet work) work d as_answered) (answer_within sheet work)
