-- The values of a kind that are read one after the other, as far as they go.
use Rattle.std.specs.Prelude.{ℕ, zero, suc, List, [], ◌∷◌}
use Rattle.varint.specs.Varint.{Read, got, refuse}

-- what follows a value; nothing where it was refused
unfoldable pub ahead : {A B : Type 0} → Read A → (A → List ℕ → List B) → List B
ahead (got a bs) f = f a bs
ahead (refuse e) f = []

-- of k values of a kind, those that are read before the first fault: all k where there is none
unfoldable pub begun : {A : Type 0} → (List ℕ → Read A) → ℕ → List ℕ → List A
begun f zero bs = []
begun f (suc k) bs = ahead (f bs) (λ a rest. a ∷ begun f k rest)
