-- What holds inside the code of a slot: whether it applies by the marks. No contract of an operation names it.
use Rattle.std.specs.Prelude.{ℕ, List, Bool, ◌&&◌, get_or, eqb, leb}
use Rattle.lists.specs.Lists.{every}
use Rattle.store_rules.specs.Shelf.{Nogood}

-- it applies by the marks: its reasons are forbidden, its goals mandatory, and the limit is no greater than its own
unfoldable pub applies_by : Nogood → List ℕ → ℕ → Bool
applies_by k marks limit =
    every (λ x. eqb (get_or marks x 0) 2) k.reasons && (every (λ x. eqb (get_or marks x 0) 1) k.goals && leb limit k.limit)
