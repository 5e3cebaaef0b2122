-- What a call that writes into one slice answers and leaves.
use Rattle.std.specs.Prelude.{ℕ, List, length, leb}
use Rattle.lists.specs.Lists.{pick, front}
use Rattle.varint.specs.Varint.{Read, got, refuse}

-- it finishes with the bytes that it writes, or refuses with a number
pub data Answer : Type 0 where
  finished : List ℕ → Answer
  refused : ℕ → Answer

unfoldable pub answer_of : Read (List ℕ) → Answer
answer_of (got bytes rest) = finished bytes
answer_of (refuse e) = refused e

-- What it gives and leaves: the refusal number, 0 where it finished, the length of what it wrote, and what the slice holds.
pub record Wrote : Type 0 where
  pub number : ℕ
  pub length : ℕ
  pub out : List ℕ

-- a finished call leaves the bytes in front; a refused one gives length 0 and leaves the slice as found
unfoldable pub wrote : Answer → List ℕ → Wrote
wrote (finished bytes) out = record { number = 0; length = length bytes; out = front bytes out }
wrote (refused e) out = record { number = e; length = 0; out = out }

-- 19: the slice is too short for the bytes
unfoldable pub fitted : List ℕ → List ℕ → Answer
fitted bytes out = pick (leb (length bytes) (length out)) (finished bytes) (refused 19)
