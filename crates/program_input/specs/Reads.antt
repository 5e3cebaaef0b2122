-- What the reading of an input leaves, of a reader whose bytes are known. Each is an `abbrev`, so that a caller's proof can use what it says. Assumes nothing.
use Rattle.std.specs.Prelude.{ℕ, ◌<◌, ◌≤◌, List, length, take}
use Rattle.std.specs.declared.option.Option.{Option}
use Rattle.std.specs.Io.KnownBytes.{Consumes, IsAtEnd}

-- the k bytes at the front of the input were the reader's next ones; none are left where the input is not full
abbrev pub Filled : Option (List ℕ) → Option (List ℕ) → List ℕ → ℕ → Type 0
Filled before after input k = Consumes before after (take k input) × (k < length input → IsAtEnd after)

-- some bytes at the front of the input were the reader's next ones, and no more were taken
abbrev pub Begun : Option (List ℕ) → Option (List ℕ) → List ℕ → Type 0
Begun before after input = (k : ℕ) × (k ≤ length input) × Consumes before after (take k input)
