-- Numbers that are their own numbers.
use Rattle.std.specs.Prelude.{ℕ, List, [], ◌∷◌, map, ◌≡◌, refl}
use mathlib.Core.Path.{ap}

pub own_numbers : (items : List ℕ) → items ≡ map (λ item. item) items
own_numbers [] = refl
own_numbers (x ∷ xs) = ap (λ rest. x ∷ rest) (own_numbers xs)
