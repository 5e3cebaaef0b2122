-- What the forms of the slip's reader stand for.
use Rattle.std.specs.Prelude.{ℕ, ◌&&◌, List, ◌∷◌, length, leb}
use Rattle.varint.specs.Varint.{Read, after, number, read_number, write_numbers}
use Rattle.numbers.specs.Begun.{begun}
use Rattle.sheet.specs.Slip.{Slip, slip_goals}
use Rattle.slip_reader.specs.Claim.{claim_number}
use Rattle.slip_reader.specs.declared.form.NumberList.{NumberList}
use Rattle.slip_reader.specs.declared.form.SlipForm.{SlipForm}

abbrev pub slip_from : ℕ → List ℕ → List ℕ → Slip
slip_from first goals reasons = record { first = first; goals = goals; reasons = reasons }

-- a list as a slip has it: the count, and the numbers
unfoldable pub list_bytes : List ℕ → List ℕ
list_bytes xs = write_numbers (length xs ∷ xs)

-- the numbers of a list
abbrev pub numbers_in : NumberList → List ℕ
numbers_in l = begun read_number l.count l.bytes.now

-- the slip that was read
abbrev pub slip_in : SlipForm → Slip
slip_in f = slip_from (claim_number f.claim) (numbers_in f.goals) (numbers_in f.reasons)

-- a slip as it is read, up to the first fault; `read_slip` gives each fault the one number for a badly written slip
unfoldable pub read_parts : List ℕ → Read Slip
read_parts bs = after (number 17 (λ x. leb 1 x && leb x 4) bs) slip_goals
