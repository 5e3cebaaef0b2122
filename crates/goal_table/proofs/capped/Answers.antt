-- `goal_table::capped` meets its contract: a number above the cap is held as missing, any other as itself. Assumes nothing.
use mathlib.Core.Path.{refl}
use Rattle.rows.proofs.HeldLaws.{low, high, is_held}
use Rattle.goal_table.proofs.capped.Goals as goal

pub returns-then-sum-cap : goal.returns-then-sum-cap
returns-then-sum-cap c = is_held (high c.if-sum-cap.true)

pub returns : goal.returns
returns c = is_held (low c.if-sum-cap.false refl)
