-- `pass_verdict::first_unmet` meets its contract. The invariant: none of the items passed is unmet. Assumes nothing.
use Prim.Native.Nat.{ℕ, ◌<◌}
use mathlib.Core.Path.{◌≡◌}
use mathlib.Core.Bool.{false, not, ◌&&◌}
use mathlib.Core.List.{[], ◌∷◌}
use Rattle.sheet.specs.Sheet.{is_mandatory, sheet_of}
use Rattle.pass_rules.specs.Verdict.{fits_sheet}
use Rattle.pass_verdict.proofs.first_unmet.Given as goal

abbrev pub invariant-loop-item : goal.invariant-loop-item
invariant-loop-item l =
    let s = l.rows.sheet in
    (j : ℕ) → j < l.item → (is_mandatory (sheet_of s.header s.arcs.now s.marks.now) j && not (fits_sheet (sheet_of s.header s.arcs.now s.marks.now) (j ∷ []))) ≡ false
