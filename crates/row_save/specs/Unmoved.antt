-- What it means that rows agree with the ones that were kept, as the code tells it.
use Rattle.std.specs.Prelude.{ℕ, ◌+◌, ◌*◌, ◌<◌, ◌≡◌, List, get_or}
use Rattle.rows.specs.Bits.{bit_of}

-- each of k goals is entered at a node that a row has
abbrev pub Entered : ℕ → List ℕ → Type 0
Entered k work = (i : ℕ) → i < k → get_or work (576 + i) 0 < 64

-- row i has the same entry at v as the row that was kept
abbrev pub Stays : List ℕ → ℕ → ℕ → Type 0
Stays work i v = get_or work (3072 + i * 64 + v) 0 ≡ get_or work (i * 64 + v) 0

-- row i has the same entries as the kept one at the node t and where each of k goals is entered
pub record UnmovedAt (work : List ℕ) (i k t : ℕ) : Type 0 where
  pub target : Stays work i t
  pub goals : (j : ℕ) → j < k → Stays work i (get_or work (576 + j) 0)

-- each of the first n rows that is kept has
abbrev pub Unmoved : List ℕ → ℕ → ℕ → ℕ → ℕ → Type 0
Unmoved work n kept k t = (i : ℕ) → i < n → bit_of kept i ≡ 1 → UnmovedAt work i k t

-- one of them has not
abbrev pub Moved : List ℕ → ℕ → ℕ → ℕ → ℕ → Type 0
Moved work n kept k t = (i : ℕ) × (i < n) × (bit_of kept i ≡ 1) × (UnmovedAt work i k t → ⊥)
