-- The planner's layer: pass and reason over bytes alone, their answers on every input and what they leave.
use Rattle.std.specs.Prelude.{ℕ, ◌*◌, List, length, ltb}
use Rattle.lists.specs.Lists.{pick, front}
use Rattle.sheet.specs.Answer.{Answer, finished, refused}
use Rattle.pass_rules.specs.Pass.{pass_on}
use Rattle.reason_rules.specs.Reason.{reason_on}
use Rattle.work.specs.Bytes.{work_bytes, zeroed_bytes, bytes_after}

-- What a call gives and leaves: its one number, 65,536 times the refusal plus the slip's length, and what work and slip hold.
pub record BytesOutcome : Type 0 where
  pub number : ℕ
  pub work : List ℕ
  pub slip : List ℕ

-- a finished call leaves the slip in front and the first 65,536 work bytes zero; a refused one has length 0 and leaves the slip as found
unfoldable pub bytes_outcome : Answer → List ℕ → List ℕ → BytesOutcome
bytes_outcome (finished bytes) work slip = record { number = length bytes; work = zeroed_bytes work; slip = front bytes slip }
bytes_outcome (refused e) work slip = record { number = 65536 * e; work = bytes_after e work; slip = slip }

-- 1: work under 65,536 bytes; 2: slip under 1,200 bytes; then what the sheet draws
unfoldable pub bytes_enough : List ℕ → List ℕ → Answer → Answer
bytes_enough work slip a = pick (ltb (length work) work_bytes) (refused 1) (pick (ltb (length slip) 1200) (refused 2) a)

-- ways_pass, for every sheet, work and slip
unfoldable pub passed_bytes : List ℕ → List ℕ → List ℕ → BytesOutcome
passed_bytes sheet work slip = bytes_outcome (bytes_enough work slip (pass_on sheet)) work slip

-- ways_reason, for every sheet, work, slip and item number
unfoldable pub reasoned_bytes : List ℕ → List ℕ → List ℕ → ℕ → BytesOutcome
reasoned_bytes sheet work slip i = bytes_outcome (bytes_enough work slip (reason_on sheet i)) work slip
