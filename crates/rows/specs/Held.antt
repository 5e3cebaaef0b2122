-- Lengths as 32-bit numbers: what is more than the cap counts as missing.
use Rattle.std.specs.Prelude.{ℕ, Bool, true, false, leb}
use Rattle.walks.specs.Lengths.{Least, none, some}

-- missing where it is more than the cap
unfoldable pub kept : Bool → ℕ → Least
kept true a = some a
kept false a = none

unfoldable pub at_most : ℕ → Least → Least
at_most cap none = none
at_most cap (some a) = kept (leb a cap) a

-- the number that stands for what is missing
abbrev pub missing : ℕ
missing = 4294967295

unfoldable pub code : Least → ℕ
code none = missing
code (some a) = a

-- a length as a number: what is more than the cap counts as missing
unfoldable pub held : ℕ → Least → ℕ
held cap r = code (at_most cap r)
