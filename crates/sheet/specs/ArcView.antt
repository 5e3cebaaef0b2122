-- Arc view (document 01: leg view): the part of a sheet that holds an arc's three numbers, and where it stands.
use Rattle.std.specs.Prelude.{ℕ, ◌+◌, ◌-◌, ◌*◌, List, [], length, take, ltb}
use Rattle.lists.specs.Lists.{pick}
use Rattle.varint.specs.Varint.{Read, got, refuse}
use Rattle.sheet.specs.Sheet.{Sheet}
use Rattle.sheet.specs.Reader.{past, content, taken}

-- the bytes of the first k numbers
unfoldable pub bytes_of : ℕ → List ℕ → List ℕ
bytes_of k bs = take (length bs - length (past k bs)) bs

-- the first where the sheet was taken and has arc l, the second where it draws 3 to 13 or has no such arc
unfoldable pub for_arc : {A : Type 0} → Read Sheet → ℕ → A → A → A
for_arc (got S rest) l x y = pick (ltb l (length S.graph.arcs)) x y
for_arc (refuse e) l x y = y

-- the bytes of arc l's three numbers: five numbers and three for each earlier arc stand before them in the content
unfoldable pub arc_view : List ℕ → ℕ → List ℕ
arc_view bs l = for_arc (taken bs) l (bytes_of 3 (past (5 + 3 * l) (content bs))) []

-- how many bytes of the sheet stand before them; an empty view stands at the sheet's front
unfoldable pub place_of : List ℕ → ℕ → ℕ
place_of bs l = for_arc (taken bs) l (length bs - length (past (5 + 3 * l) (content bs))) 0
