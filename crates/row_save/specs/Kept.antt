-- Rows that are put aside and back, as the code tells it.
use Rattle.std.specs.Prelude.{ℕ, ◌+◌, ◌*◌, ◌≤◌, ◌<◌, ◌≡◌, ◌⊎◌, List, get_or}
use Rattle.rows.specs.Bits.{bit_of}

-- the 64 numbers from `from` on stand from `to` on too, and all else is as it was
pub record RowPut (work : List ℕ) (from to : ℕ) (after : List ℕ) : Type 0 where
  pub there : (v : ℕ) → v < 64 → get_or after (to + v) 0 ≡ get_or work (from + v) 0
  pub other : (j : ℕ) → (j < to) ⊎ (to + 64 ≤ j) → get_or after j 0 ≡ get_or work j 0

-- those of the first n rows that are kept are back, and the others are as they were
pub record RowsBack (work : List ℕ) (n kept : ℕ) (after : List ℕ) : Type 0 where
  pub back : (i : ℕ) → i < n → bit_of kept i ≡ 1 → (v : ℕ) → v < 64 → get_or after (i * 64 + v) 0 ≡ get_or work (3072 + i * 64 + v) 0
  pub same : (i : ℕ) → i < n → bit_of kept i ≡ 0 → (v : ℕ) → v < 64 → get_or after (i * 64 + v) 0 ≡ get_or work (i * 64 + v) 0

-- and so is all else
pub record PutBack (work : List ℕ) (n kept : ℕ) (after : List ℕ) : Type 0 where
  pub rows : RowsBack work n kept after
  pub other : (j : ℕ) → n * 64 ≤ j → get_or after j 0 ≡ get_or work j 0
