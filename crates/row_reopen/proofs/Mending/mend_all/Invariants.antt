-- `row_reopen::Mending::mend_all` meets its contract: the rows before `row` are gone through, and hold the least lengths. Assumes nothing.
use mathlib.Core.Path.{◌≡◌}
use lib.ListN.{length, take}
use Rattle.row_reopen.specs.Openings.{change_is, Saves, Spared, RowsAway, RowsMendedTo}
use Rattle.row_reopen.proofs.Mending.mend_all.Given as goal

abbrev pub invariant-loop-row : goal.invariant-loop-row
invariant-loop-row l =
    (length l.work ≡ length l.fn.work) × Saves l.row l.self.cap (change_is l.self.change) l.fn.work l.work l.kept.bits
    × RowsMendedTo l.row l.self.cap (take l.self.links.now.count l.self.links.now.arcs) l.self.marks.now l.starts l.self.active (change_is l.self.change)
    l.fn.work l.work
    × RowsAway l.row (take l.self.links.now.count l.self.links.now.arcs) l.starts l.fn.work l.work
    × Spared l.row l.self.cap (change_is l.self.change) l.fn.work l.kept.bits
