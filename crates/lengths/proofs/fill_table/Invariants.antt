-- `lengths::fill_table` meets its contract. The loop's invariant: the table is filled for the sets below `bits`. Assumes nothing.
use mathlib.Core.Path.{◌≡◌}
use mathlib.Core.List.{List}
use Prim.Native.Nat.{ℕ}
use lib.ListN.{length}
use Rattle.rows.specs.Net.{Net}
use Rattle.goal_table.specs.Table.{Filled, TableOnly}
use Rattle.lengths.proofs.fill_table.Given as goal

abbrev pub invariant-loop-bits : goal.invariant-loop-bits
invariant-loop-bits l =
    (length l.work ≡ length l.initial.work) × TableOnly l.initial.work l.work
    × ((N : Net) (a : ℕ) (goals : List ℕ) → length goals ≡ l.count → Filled N l.cap a goals 0 l.initial.work → Filled N l.cap a goals l.bits l.work)
