-- `put_bytes` copies the bytes. The invariant (`Row`): the first i stand in front. Assumes nothing.
use mathlib.Core.List.{List}
use Prim.Native.Nat.{ℕ}
use Rattle.lists.proofs.RowLaws.{just, Row}
use Rattle.numbers.proofs.put_bytes.Given as goal

abbrev pub invariant-loop-i : goal.invariant-loop-i
invariant-loop-i l = Row just (λ (xs : List ℕ). xs) l.bytes l.initial.out l.out l.i l.i
