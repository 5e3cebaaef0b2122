-- `row_fill::fill_rows` meets its contract. The loop's invariant: the rows before `number` hold least lengths, and the work from there on is as it was. Assumes nothing.
use mathlib.Core.Path.{◌≡◌}
use Prim.Native.Nat.{ℕ, ◌*◌, ◌<◌}
use lib.ListN.{get_or, drop}
use Rattle.rows.specs.Net.{Net}
use Rattle.rows.specs.Rows.{StartsOf, RowsAre, AwayMissing, row_at}
use Rattle.row_fill.proofs.fill_rows.Given as goal

abbrev pub invariant-loop-number : goal.invariant-loop-number
invariant-loop-number l =
    (drop (l.number * 64) l.work ≡ drop (l.number * 64) l.initial.work) × ((N : Net) → StartsOf N l.arcs l.marks l.starts → RowsAre N l.cap l.starts l.number l.work)
    × ((j : ℕ) → j < l.number → AwayMissing l.arcs (get_or l.starts j 0) (row_at l.work j))
