-- Where no item is closed there are no reasons. Assumes nothing.
use Prim.Native.Nat.{ℕ, zero, suc}
use mathlib.Core.Path.{◌≡◌, refl, sym}
use mathlib.Core.Bool.{false}
use mathlib.Core.List.{List, [], ◌∷◌}
use lib.Dec.{eqb}
use borrow.Author.Tests.{eqb-false, ne_eqb}
use Rattle.lists.proofs.TestLaws.{or_false}
use Rattle.lists.specs.Lists.{member}
use Rattle.walks.specs.Graph.{Graph, closed_in, item_count}
use Rattle.reason_list.specs.Reasons.{greedy, reasons}

nothing_closed : (marks : List ℕ) → member 2 marks ≡ false → (i : ℕ) → closed_in marks i ≡ false
unfolding member
nothing_closed [] e i = refl
nothing_closed (m ∷ ms) e zero = ne_eqb m 2 (λ z. eqb-false 2 m (or_false (eqb 2 m) (member 2 ms) e).0 (sym z))
nothing_closed (m ∷ ms) e (suc i) = nothing_closed ms (or_false (eqb 2 m) (member 2 ms) e).1 i

module _ (G : Graph) (s t k : ℕ) (goals marks : List ℕ) (none : member 2 marks ≡ false) where
  greedy_none : (c i : ℕ) → greedy G s t k goals c i marks ≡ []
  unfolding greedy
  greedy_none zero i = refl
  greedy_none (suc c) i = rw (greedy, nothing_closed marks none i) (greedy_none c (suc i))

  pub reasons_none : reasons G s t k goals marks ≡ []
  unfolding reasons
  reasons_none = greedy_none (item_count G) 0
