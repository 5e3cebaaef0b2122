-- The length of so many zeros. Assumes nothing.
use Prim.Native.Nat.{ℕ}
use mathlib.Core.Path.{◌≡◌}
use lib.ListN.{length, length-replicate}
use Rattle.sheet.specs.Lent.{zeros}

pub length_zeros : (k : ℕ) → length (zeros k) ≡ k
unfolding zeros
length_zeros k = length-replicate k 0
