-- What reason answers to a sheet that is refused, and to one that is taken. Assumes nothing.
use Prim.Native.Nat.{ℕ}
use mathlib.Core.Path.{◌≡◌}
use mathlib.Core.List.{List, []}
use Rattle.sheet.specs.Reader.{taken}
use Rattle.sheet.specs.Sheet.{Sheet}
use Rattle.varint.specs.Varint.{got, refuse, after}
use Rattle.sheet.specs.Answer.{refused, answer_of}
use Rattle.reason_rules.specs.Reason.{reason_in, reason_on}

pub bad_sheet : (sheet : List ℕ) (i w : ℕ) → taken sheet ≡ refuse w → reason_on sheet i ≡ refused w
unfolding reason_on answer_of after
bad_sheet sheet i w e = rw e

-- on a taken sheet reason answers for the item
pub on_sheet : (sheet : List ℕ) (i : ℕ) (S : Sheet) → taken sheet ≡ got S [] → reason_on sheet i ≡ answer_of (reason_in i S [])
unfolding reason_on after
on_sheet sheet i S e = rw e
