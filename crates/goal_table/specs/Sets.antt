-- Sets of goals as numbers: bit i says whether goal i is in the set.
use Rattle.std.specs.Prelude.{ℕ, zero, suc, ◌-◌, ◌/◌, ◌%◌, ◌^◌, ◌<◌, ◌≡◌, ◌≢◌, Bool, true, false, List, [], ◌∷◌, get_or, eqb}
use Rattle.lists.specs.Lists.{add}
use Rattle.walks.specs.Goals.{entry_of, own_of, lastly}
use Rattle.walks.specs.Graph.{Graph, least}
use Rattle.walks.specs.Lengths.{Least, none, lesser, plus}

unfoldable pub odd : ℕ → Bool
odd set = eqb (set % 2) 1

unfoldable pub has : ℕ → ℕ → Bool
has set zero = odd set
has set (suc i) = has (set / 2) i

-- i is the set's first goal, and without it the rest is left
pub record FirstOff (set i rest : ℕ) : Type 0 where
  pub in_set : has set i ≡ true
  pub before : (j : ℕ) → j < i → has set j ≡ false
  pub off : has rest i ≡ false
  pub others : (j : ℕ) → j ≢ i → has rest j ≡ has set j
  pub less : rest < set

-- the goals of a set
unfoldable pub chosen : List ℕ → ℕ → List ℕ
chosen [] set = []
chosen (g ∷ gs) set = add (odd set) g (chosen gs (set / 2))

unfoldable pub given : Bool → Least → Least
given true r = r
given false r = none

-- the goals of the set met, then goal i, and the walk just past it
unfoldable pub just_past : Graph → (ℕ → Bool) → ℕ → List ℕ → ℕ → ℕ → Least
just_past G closed a goals set i =
    plus (least G closed (chosen goals set) a (entry_of G (get_or goals i 0))) (own_of G closed (get_or goals i 0))

-- the least length on to b over the goals below n of the set as the last goal
unfoldable pub any_in : Graph → (ℕ → Bool) → ℕ → ℕ → List ℕ → ℕ → ℕ → Least
any_in G closed a b goals set zero = none
any_in G closed a b goals set (suc n) =
    lesser (any_in G closed a b goals set n) (given (has set n) (lastly G closed a b (chosen goals (set - 2 ^ n)) (get_or goals n 0)))
