-- `row_save::put_back` meets its contract: the kept ones of the rows below `row` are back. Assumes nothing.
use mathlib.Core.Path.{◌≡◌}
use lib.ListN.{length}
use Rattle.row_save.specs.Kept.{PutBack}
use Rattle.row_save.proofs.put_back.Given as goal

abbrev pub invariant-loop-row : goal.invariant-loop-row
invariant-loop-row l = (length l.work ≡ length l.fn.work) × PutBack l.fn.work l.row l.kept.bits l.work
