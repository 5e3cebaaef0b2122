-- The layer as document 01 tells it: the work's bytes are copied in as numbers, four bytes each, low byte first, the operation runs, and the numbers are copied out.
use Rattle.std.specs.Prelude.{ℕ, zero, suc, ◌+◌, ◌*◌, ◌/◌, ◌%◌, List, [], ◌∷◌, get_or, drop}
use Rattle.lists.specs.Lists.{front}
use Rattle.pass_rules.specs.Pass as pass
use Rattle.check_rules.specs.Check as check
use Rattle.planner.specs.Layer as layer
use Rattle.planner.specs.Check as layer_check
use Rattle.planner.specs.Check.{yes_number}

-- the number that the first four bytes hold
abbrev pub number_in : List ℕ → ℕ
number_in bytes = get_or bytes 0 0 + 256 * get_or bytes 1 0 + 65536 * get_or bytes 2 0 + 16777216 * get_or bytes 3 0

-- the first k numbers of the bytes
unfoldable pub numbers_of : ℕ → List ℕ → List ℕ
numbers_of zero bytes = []
numbers_of (suc k) bytes = number_in bytes ∷ numbers_of k (drop 4 bytes)

-- the bytes of the numbers
unfoldable pub work_bytes_of : List ℕ → List ℕ
work_bytes_of [] = []
work_bytes_of (x ∷ xs) = x % 256 ∷ x / 256 % 256 ∷ x / 65536 % 256 ∷ x / 16777216 % 256 ∷ work_bytes_of xs

-- pass or reason over numbers, copied out
abbrev pub copied_out : pass.Outcome → List ℕ → layer.BytesOutcome
copied_out o work = record { number = 65536 * o.number + o.length; work = front (work_bytes_of o.work) work; slip = o.slip }

-- check over numbers, copied out
abbrev pub check_copied_out : check.CheckOutcome → List ℕ → layer_check.CheckBytesOutcome
check_copied_out o work = record { number = 65536 * o.number + yes_number o.yes; work = front (work_bytes_of o.work) work }
