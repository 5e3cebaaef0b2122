-- Slips (document 01, 'Sheet and slip'): their numbers, as written and as read.
use Rattle.std.specs.Prelude.{ℕ, ◌&&◌, List, [], ◌∷◌, ◌++◌, length, leb}
use Rattle.varint.specs.Varint.{Read, got, refuse, after, read_number, number, several, write_numbers}

-- The slip of a refused round or a struck item: verdict 1 to 3, or 4 for a struck item; the goals; the reasons.
pub record Slip : Type 0 where
  pub first : ℕ
  pub goals : List ℕ
  pub reasons : List ℕ

unfoldable pub slip_numbers : Slip → List ℕ
slip_numbers s = s.first ∷ length s.goals ∷ s.goals ++ length s.reasons ∷ s.reasons

unfoldable pub slip_bytes : Slip → List ℕ
slip_bytes s = write_numbers (slip_numbers s)

-- the slip of verdict 0: the number 0, then the marks of nodes and arcs
unfoldable pub marks_bytes : List ℕ → List ℕ
marks_bytes marks = write_numbers (0 ∷ marks)

-- a count, and as many numbers
unfoldable pub read_list : List ℕ → Read (List ℕ)
read_list bs = after (read_number bs) (several read_number)

unfoldable pub slip_end : Slip → List ℕ → Read Slip
slip_end s [] = got s []
slip_end s (b ∷ bs) = refuse 17

unfoldable pub slip_reasons : ℕ → List ℕ → List ℕ → Read Slip
slip_reasons v goals bs = after (read_list bs) (λ rs. slip_end (record { first = v; goals = goals; reasons = rs }))

unfoldable pub slip_goals : ℕ → List ℕ → Read Slip
slip_goals v bs = after (read_list bs) (slip_reasons v)

-- every fault in the writing is a 17
unfoldable pub as17 : Read Slip → Read Slip
as17 (got s bs) = got s bs
as17 (refuse e) = refuse 17

-- 17: the slip ends early, has a badly written number, a first number not 1 to 4, or bytes left over
unfoldable pub read_slip : List ℕ → Read Slip
read_slip bs = as17 (after (number 17 (λ x. leb 1 x && leb x 4) bs) slip_goals)
