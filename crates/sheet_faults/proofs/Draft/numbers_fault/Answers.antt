-- `numbers_fault` judges the marks, and then the service minutes. Assumes nothing.
use Rattle.varint.specs.declared.refusal.Refusal.TheVariants.{Mark}
use Rattle.sheet_faults.proofs.FaultLaws.{stop, go, each_fine, each_wrong}
use Rattle.sheet_faults.proofs.Draft.numbers_fault.Goals as goal
use Rattle.sheet_faults.proofs.Draft.numbers_fault.Goals.{else-are_marks-via-then-are_marks+else-are_services, else-are_marks-via-else-are_marks}

pub returns-then-are_services : goal.returns-then-are_services
returns-then-are_services c =
    go _ _ _ (each_fine _ _ c.are_marks.ensures c.if-are_marks.true) (each_fine _ _ c.are_services.ensures c.if-are_services.true)

pub returns-else-are_marks : goal.returns-else-are_marks
returns-else-are_marks c =
    elim c.else-are_marks.branch [
      | else-are_marks-via-then-are_marks+else-are_services k ↦
          go _ _ _ (each_fine _ _ c.are_marks.ensures k.if-are_marks.true) (each_wrong _ _ k.are_services.ensures k.if-are_services.false)
      | else-are_marks-via-else-are_marks k ↦ stop Mark _ _ (each_wrong _ _ c.are_marks.ensures k.if-are_marks.false)
    ]
