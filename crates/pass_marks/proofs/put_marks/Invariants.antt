-- `pass_marks::put_marks` meets its contract. The invariant: the marks of the items passed stand in front. Assumes nothing.
use Prim.Native.Nat.{◌+◌}
use Rattle.sheet.specs.Sheet.{sheet_of}
use Rattle.pass_marks.proofs.MarkingLaws.{Marking}
use Rattle.pass_marks.proofs.put_marks.Given as goal

abbrev pub invariant-loop-item : goal.invariant-loop-item
invariant-loop-item l =
    let s = l.rows.sheet in
    Marking (sheet_of s.header s.arcs.now s.marks.now) (s.header.nodes + s.header.arcs) l.initial.out l.out l.item
