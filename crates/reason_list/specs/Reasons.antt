-- The list of reasons (document 01, 'Reasons').
use Rattle.std.specs.Prelude.{ℕ, zero, suc, Bool, true, false, not, ◌&&◌, List, [], ◌∷◌, set, eqb}
use Rattle.walks.specs.Graph.{Graph, item_count, closed_in, fits}

-- The reasons among the c items from i on. Where i is closed it is opened, with those opened earlier also open and later ones still closed. If no
-- walk then meets the goals within the limit it remains open; otherwise it is closed again and listed.
unfoldable pub greedy : Graph → ℕ → ℕ → ℕ → List ℕ → ℕ → ℕ → List ℕ → List ℕ
greedy G s t k goals zero i marks = []
greedy G s t k goals (suc c) i marks =
    elim (closed_in marks i) [
      | false ↦ greedy G s t k goals c (suc i) marks
      | true ↦ elim (fits G s t k (closed_in (set marks i 0)) goals) [
        | true ↦ i ∷ greedy G s t k goals c (suc i) marks
        | false ↦ greedy G s t k goals c (suc i) (set marks i 0)
      ]
    ]

-- the reason for the goals and the limit k that is handed out, from source s to target t
unfoldable pub reasons : Graph → ℕ → ℕ → ℕ → List ℕ → List ℕ → List ℕ
reasons G s t k goals marks = greedy G s t k goals (item_count G) 0 marks

-- what c closes, except r
unfoldable pub but : (ℕ → Bool) → ℕ → ℕ → Bool
but c r j = c j && not (eqb j r)
