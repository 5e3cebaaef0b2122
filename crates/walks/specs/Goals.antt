-- Goals: where a walk enters and leaves one, and the least length with a given goal as the last one met.
use Rattle.std.specs.Prelude.{ℕ, ◌-◌, Bool, true, false, List, [], ◌∷◌, ltb}
use Rattle.lists.specs.Lists.{without, pick}
use Rattle.walks.specs.Graph.{Graph, tail_of, head_of, weight_of, least}
use Rattle.walks.specs.Lengths.{Least, none, some, lesser, plus}

-- a node is entered and left at itself, an arc is entered at its tail and left at its head
unfoldable pub entry_of : Graph → ℕ → ℕ
entry_of G g = pick (ltb g G.nodes) g (tail_of G (g - G.nodes))

unfoldable pub exit_of : Graph → ℕ → ℕ
exit_of G g = pick (ltb g G.nodes) g (head_of G (g - G.nodes))

-- from entry to exit: nothing for a node, the weight for an open arc, and no way over a closed one
unfoldable pub over : Bool → Bool → ℕ → Least
over true shut w = some 0
over false true w = none
over false false w = some w

unfoldable pub own_of : Graph → (ℕ → Bool) → ℕ → Least
own_of G closed g = over (ltb g G.nodes) (closed g) (weight_of G (g - G.nodes))

-- the goals `others` met first, then the goal g, then on to b
unfoldable pub lastly : Graph → (ℕ → Bool) → ℕ → ℕ → List ℕ → ℕ → Least
lastly G closed a b others g =
    plus (plus (least G closed others a (entry_of G g)) (own_of G closed g)) (least G closed [] (exit_of G g) b)

-- the least of these over the listed goals, the others being the rest of gs
unfoldable pub any_last : Graph → (ℕ → Bool) → ℕ → ℕ → List ℕ → List ℕ → Least
any_last G closed a b gs [] = none
any_last G closed a b gs (g ∷ hs) = lesser (lastly G closed a b (without g gs) g) (any_last G closed a b gs hs)
