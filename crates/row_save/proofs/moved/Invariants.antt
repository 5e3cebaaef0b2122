-- `row_save::moved` meets its contract: those of the rows below `row` that are kept have the same entries where they matter. Assumes nothing.
use Rattle.row_save.specs.Unmoved.{Unmoved}
use Rattle.row_save.proofs.moved.Given as goal

abbrev pub invariant-loop-row : goal.invariant-loop-row
invariant-loop-row l = Unmoved l.work l.row l.kept.bits l.count l.to
