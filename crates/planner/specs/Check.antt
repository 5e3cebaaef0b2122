-- The planner's layer: check over bytes alone, its answer on every input and what it leaves.
use Rattle.std.specs.Prelude.{ℕ, ◌*◌, Bool, List, length, ltb}
use Rattle.lists.specs.Lists.{pick}
use Rattle.varint.specs.Varint.{Read, got, refuse}
use Rattle.check_rules.specs.Check.{check_on}
use Rattle.work.specs.Bytes.{work_bytes, zeroed_bytes, bytes_after}

-- What a call gives and leaves: its one number, 65,536 times the refusal plus 1 for yes, and what the work holds. The slip is only read.
pub record CheckBytesOutcome : Type 0 where
  pub number : ℕ
  pub work : List ℕ

-- 1 for yes
abbrev pub yes_number : Bool → ℕ
yes_number answer = pick answer 1 0

unfoldable pub check_bytes_outcome : Read Bool → List ℕ → CheckBytesOutcome
check_bytes_outcome (got answer rest) work = record { number = yes_number answer; work = zeroed_bytes work }
check_bytes_outcome (refuse e) work = record { number = 65536 * e; work = bytes_after e work }

-- ways_check, for every sheet, work and slip; 1: work under 65,536 bytes
unfoldable pub checked_bytes : List ℕ → List ℕ → List ℕ → CheckBytesOutcome
checked_bytes sheet work slip = check_bytes_outcome (pick (ltb (length work) work_bytes) (refuse 1) (check_on sheet slip)) work
