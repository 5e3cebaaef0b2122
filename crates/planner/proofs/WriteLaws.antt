-- What the writer gives and leaves as one number and a slice, from what it answers. Assumes nothing.
use Prim.Native.Nat.{ℕ, ◌+◌, ◌*◌, ◌≤◌}
use mathlib.Core.Path.{◌≡◌, ap}
use mathlib.Core.Logic.{⊎_elim}
use mathlib.Core.List.{List}
use native.Mathlib.Omega.{arith}
use Rattle.sheet.specs.Answer.{Wrote}
use Rattle.sheet.specs.Draft.{Draft}
use Rattle.sheet.specs.Writer.{sheet_written}
use Rattle.sheet.proofs.SizeLaws.{written_size}
use Rattle.planner.specs.Write.{one_number, written_number}

module _ (d : Draft) (out : List ℕ) (w : Wrote) (e : w ≡ sheet_written d out) where
  pub write_number : {number : ℕ} → number ≡ 65536 * w.number + w.length → record { number = number; out = w.out } ≡ written_number d out
  unfolding written_number one_number
  write_number n = rw n (ap one_number e)

  -- the one number fits
  pub write_small : (w.number ≤ 27) × (w.length ≤ 65535)
  write_small =
      let l = written_size d out in
      let n : (sheet_written d out).number ≤ 27 = ⊎_elim (λ g. omega (arith, g)) (λ g. omega (arith, g)) l.0 in
      (omega (arith, ap (λ (w : Wrote). w.number) e, n), omega (arith, ap (λ (w : Wrote). w.length) e, l.1))
