-- What a call leaves in the work that it is lent.
use Rattle.std.specs.Prelude.{ℕ, List, ◌++◌, drop, replicate, leb}
use Rattle.lists.specs.Lists.{pick}

-- how many work numbers an operation asks for
abbrev pub work_numbers : ℕ
work_numbers = 16384

unfoldable pub zeros : ℕ → List ℕ
zeros k = replicate k 0

-- the first 16,384 numbers zero, the rest as found
unfoldable pub zeroed : List ℕ → List ℕ
zeroed work = zeros work_numbers ++ drop work_numbers work

-- refusals 1 to 13 leave the work as found, later ones its first 16,384 numbers zero
unfoldable pub work_after : ℕ → List ℕ → List ℕ
work_after e work = pick (leb e 13) work (zeroed work)
