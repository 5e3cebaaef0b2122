-- The planner's layer: the writer of sheets, its answer on every input and what it leaves.
use Rattle.std.specs.Prelude.{ℕ, ◌+◌, ◌*◌, List}
use Rattle.sheet.specs.Answer.{Wrote}
use Rattle.sheet.specs.Draft.{Draft}
use Rattle.sheet.specs.Writer.{sheet_written}

-- What a call gives and leaves: its one number, 65,536 times the refusal plus the sheet's length, and what the slice holds. The lists are only read.
pub record WrittenNumber : Type 0 where
  pub number : ℕ
  pub out : List ℕ

unfoldable pub one_number : Wrote → WrittenNumber
one_number w = record { number = 65536 * w.number + w.length; out = w.out }

-- ways_write, for every draft and slice
unfoldable pub written_number : Draft → List ℕ → WrittenNumber
written_number d out = one_number (sheet_written d out)
