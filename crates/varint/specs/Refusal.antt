-- The number of each refusal, as docs/FORMATS.md, 'What is refused', and host/ways.h list them. 14 and 21 are no refusal's number.
use Rattle.std.specs.Prelude.{ℕ, Result, Ok, Err}
use Rattle.varint.specs.declared.refusal.Refusal.{Refusal}
use Rattle.varint.specs.declared.refusal.Refusal.TheVariants.{ShortWork, ShortSlip, Ends, Overlong, Nodes, Arcs, Place, Limit, ArcEnd, Minutes, Mark}
use Rattle.varint.specs.declared.refusal.Refusal.TheVariants.{Rest, Required, NoItem, NotStruck, BadSlip, BadClaim, ShortSheet, NotShelved, OtherMap, Full}

abbrev pub number_of : Refusal → ℕ
number_of ShortWork = 1
number_of ShortSlip = 2
number_of Ends = 3
number_of Overlong = 4
number_of Nodes = 5
number_of Arcs = 6
number_of Place = 7
number_of Limit = 8
number_of ArcEnd = 9
number_of Minutes = 10
number_of Mark = 11
number_of Rest = 12
number_of Required = 13
number_of NoItem = 15
number_of NotStruck = 16
number_of BadSlip = 17
number_of BadClaim = 18
number_of ShortSheet = 19
number_of NotShelved = 20
number_of OtherMap = 22
number_of Full = 23

-- the number of a call's result, 0 where it finished
abbrev pub number_in : {A : Type 0} → Result A Refusal → ℕ
number_in (Ok _) = 0
number_in (Err why) = number_of why

-- the length of what it wrote, 0 where it was refused
abbrev pub length_in : Result ℕ Refusal → ℕ
length_in (Ok n) = n
length_in (Err why) = 0
