-- What a call leaves in the work that it is lent as bytes, four per number, low byte first.
use Rattle.std.specs.Prelude.{ℕ, List, ◌++◌, drop, leb}
use Rattle.lists.specs.Lists.{pick}
use Rattle.sheet.specs.Lent.{zeros}

-- how many work bytes an operation asks for: four for each of the 16,384 numbers
abbrev pub work_bytes : ℕ
work_bytes = 65536

-- the first 65,536 bytes zero, the rest as found
unfoldable pub zeroed_bytes : List ℕ → List ℕ
zeroed_bytes work = zeros work_bytes ++ drop work_bytes work

-- refusals 1 to 13 leave every byte as found, later ones the first 65,536 zero
unfoldable pub bytes_after : ℕ → List ℕ → List ℕ
bytes_after e work = pick (leb e 13) work (zeroed_bytes work)
