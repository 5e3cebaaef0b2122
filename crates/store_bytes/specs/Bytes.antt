-- The store for a program in C: put and ask over bytes alone, their answers on every input and what they leave.
use Rattle.std.specs.Prelude.{ℕ, ◌*◌, List, length, ltb}
use Rattle.lists.specs.Lists.{pick, front}
use Rattle.varint.specs.Varint.{Read, got, refuse}
use Rattle.sheet.specs.Slip.{slip_bytes}
use Rattle.store_rules.specs.Shelf.{Shelf, slip_of, Found, missing, found}
use Rattle.store_rules.specs.Store.{put_on, ask_on}
use Rattle.work.specs.Bytes.{work_bytes, zeroed_bytes, bytes_after}

-- What put gives and leaves: its one number, 65,536 times the refusal, the shelf, and what the work holds. Sheet and slip are only read.
pub record PutBytesOutcome : Type 0 where
  pub number : ℕ
  pub shelf : Shelf
  pub work : List ℕ

unfoldable pub put_bytes_outcome : Shelf → Read Shelf → List ℕ → PutBytesOutcome
put_bytes_outcome K (got L rest) work = record { number = 0; shelf = L; work = zeroed_bytes work }
put_bytes_outcome K (refuse e) work = record { number = 65536 * e; shelf = K; work = bytes_after e work }

-- ways_store_put, for every shelf, sheet, work and slip; 1: work under 65,536 bytes
unfoldable pub put_bytes : Shelf → List ℕ → List ℕ → List ℕ → PutBytesOutcome
put_bytes K sheet work slip = put_bytes_outcome K (pick (ltb (length work) work_bytes) (refuse 1) (put_on K sheet slip)) work

-- What ask gives and leaves: its one number, 65,536 times the refusal or the length of the slip that it wrote, and what the slip holds. Shelf and sheet are only read.
pub record AskBytesOutcome : Type 0 where
  pub number : ℕ
  pub slip : List ℕ

-- the slip that was found stands in front; where none applies, and where the call is refused, the slip is as found
unfoldable pub ask_bytes_outcome : Read Found → List ℕ → AskBytesOutcome
ask_bytes_outcome (got missing rest) slip = record { number = 0; slip = slip }
ask_bytes_outcome (got (found k) rest) slip = record { number = length (slip_bytes (slip_of k)); slip = front (slip_bytes (slip_of k)) slip }
ask_bytes_outcome (refuse e) slip = record { number = 65536 * e; slip = slip }

-- ways_store_ask, for every shelf, sheet and slip; 2: slip under 1,200 bytes
unfoldable pub ask_bytes : Shelf → List ℕ → List ℕ → AskBytesOutcome
ask_bytes K sheet slip = ask_bytes_outcome (pick (ltb (length slip) 1200) (refuse 2) (ask_on K sheet)) slip
