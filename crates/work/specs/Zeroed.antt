-- What zeroed work is, told by its numbers of zeros. Assumes nothing.
use Rattle.std.specs.Prelude.{◌≡◌, refl, ℕ, List, ◌++◌, replicate, drop}
use Rattle.sheet.specs.Lent.{zeros, zeroed}
use Rattle.work.specs.Bytes.{zeroed_bytes}

pub numbers_zeroed : (work : List ℕ) → zeroed work ≡ replicate 16384 0 ++ drop 16384 work
unfolding zeroed zeros
numbers_zeroed work = refl

pub bytes_zeroed : (work : List ℕ) → zeroed_bytes work ≡ replicate 65536 0 ++ drop 65536 work
unfolding zeroed_bytes zeros
bytes_zeroed work = refl
