-- The operation pass: its answer on every input, and what it leaves (document 01, 'The operations and what they refuse').
use Rattle.std.specs.Prelude.{ℕ, suc, ◌≤◌, ◌≡◌, List, [], length, get_or, take, drop, ltb}
use Rattle.lists.specs.Lists.{pick, front}
use Rattle.varint.specs.Varint.{got, after}
use Rattle.sheet.specs.Slip.{Slip, read_slip}
use Rattle.sheet.specs.Lent.{work_numbers, zeroed, work_after}
use Rattle.sheet.specs.Answer.{Answer, finished, refused, answer_of}
use Rattle.sheet.specs.Reader.{taken}
use Rattle.pass_rules.specs.Verdict.{verdict, pass_slip}

-- What a call gives and leaves: the refusal number, 0 where it finished, the slip's length, and what work and slip hold.
pub record Outcome : Type 0 where
  pub number : ℕ
  pub length : ℕ
  pub work : List ℕ
  pub slip : List ℕ

-- a finished call leaves the slip in front and the first 16,384 work numbers zero; a refused one gives length 0 and leaves the slip as found
unfoldable pub outcome : Answer → List ℕ → List ℕ → Outcome
outcome (finished bytes) work slip = record { number = 0; length = length bytes; work = zeroed work; slip = front bytes slip }
outcome (refused e) work slip = record { number = e; length = 0; work = work_after e work; slip = slip }

-- 1: work under 16,384 numbers; 2: slip under 1,200 bytes; then what the sheet draws
unfoldable pub lent_enough : List ℕ → List ℕ → Answer → Answer
lent_enough work slip a = pick (ltb (length work) work_numbers) (refused 1) (pick (ltb (length slip) 1200) (refused 2) a)

-- what pass answers to a sheet, given work and slip of the lengths it asks for
unfoldable pub pass_on : List ℕ → Answer
pass_on sheet = answer_of (after (taken sheet) (λ S rest. got (pass_slip S (verdict S)) rest))

-- pass, for every sheet, work and slip
unfoldable pub passed : List ℕ → List ℕ → List ℕ → Outcome
passed sheet work slip = outcome (lent_enough work slip (pass_on sheet)) work slip

-- the slip that a call left: so many bytes in front
abbrev pub written : Outcome → List ℕ
written o = take o.length o.slip

-- What a slip says: its first number and each mark is below 128, and so one byte.
abbrev pub verdict_in : List ℕ → ℕ
verdict_in slip = get_or slip 0 0

abbrev pub mark_in : List ℕ → ℕ → ℕ
mark_in slip i = get_or slip (suc i) 0

abbrev pub marks_in : List ℕ → List ℕ
marks_in slip = drop 1 slip

-- The pass on a sheet refuses its round: its slip has a verdict 1 to 3, with these goals and reasons.
pub record Refuses (sheet : List ℕ) (s : Slip) : Type 0 where
  pub slip : List ℕ
  pub finishes : pass_on sheet ≡ finished slip
  pub says : read_slip slip ≡ got s []
  pub low : 1 ≤ s.first
  pub high : s.first ≤ 3

-- An item ends shut: the slip for the sheet has verdict 0 and mark 2 for the item.
pub record EndsForbidden (sheet : List ℕ) (i : ℕ) : Type 0 where
  pub slip : List ℕ
  pub finishes : pass_on sheet ≡ finished slip
  pub stands : verdict_in slip ≡ 0
  pub mark : mark_in slip i ≡ 2
