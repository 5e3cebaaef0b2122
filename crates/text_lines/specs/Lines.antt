-- Lines of text: a word, and numbers in decimal behind it, or a number alone. Bytes are ASCII codes.
use Rattle.std.specs.Prelude.{ℕ, ◌-◌, List, [], ◌∷◌, ◌++◌, leb}
use Rattle.std.specs.Fmt.{decimal}
use Rattle.std.specs.List.{flat_map}
use Rattle.lists.specs.Lists.{pick}

-- a space and the number in decimal, without needless zeros in front
abbrev pub spaced : ℕ → List ℕ
spaced n = 32 ∷ decimal n

-- numbers in a row, each behind a space
abbrev pub row : List ℕ → List ℕ
row xs = flat_map spaced xs

-- a word, the numbers and the line's end
abbrev pub line : List ℕ → List ℕ → List ℕ
line word xs = (word ++ row xs) ++ (10 ∷ [])

-- a number alone on its line
abbrev pub number_line : ℕ → List ℕ
number_line n = decimal n ++ (10 ∷ [])

-- k − a alone on its line, behind `-` where it is negative
unfoldable pub difference_line : ℕ → ℕ → List ℕ
difference_line k a = pick (leb a k) (number_line (k - a)) (45 ∷ number_line (a - k))

-- a line for each entry of a list
abbrev pub lines : (ℕ → List ℕ) → List ℕ → List ℕ
lines f xs = flat_map f xs
