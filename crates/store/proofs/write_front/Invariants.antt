-- `write_front` copies the numbers. The invariant (`Row`): the first i stand in front. Assumes nothing.
use mathlib.Core.List.{List}
use Prim.Native.Nat.{ℕ}
use Rattle.lists.proofs.RowLaws.{just, Row}
use Rattle.store.proofs.write_front.Given as goal

abbrev pub invariant-loop-i : goal.invariant-loop-i
invariant-loop-i l = Row just (λ (xs : List ℕ). xs) l.numbers l.initial.kept l.kept l.i l.i
