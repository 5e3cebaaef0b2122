-- Numbers that can be written.
use Rattle.std.specs.Prelude.{ℕ, List, Bool, ltb}
use Rattle.lists.specs.Lists.{every}

-- each number is one that has a written form: below 2 to the 28
unfoldable pub small : List ℕ → Bool
small xs = every (λ x. ltb x 268435456) xs
