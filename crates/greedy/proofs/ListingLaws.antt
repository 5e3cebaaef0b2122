-- The list as the loop makes it: what was listed of the items before i, put before the greedy list of the rest, is the whole. Assumes nothing.
use Prim.Native.Nat.{ℕ, suc, ◌+◌, ◌-◌, ◌≤◌, ◌<◌}
use mathlib.Core.Path.{◌≡◌, refl, sym, ap, ◌∙◌}
use mathlib.Core.Bool.{true, false}
use mathlib.Core.List.{List, [], ◌∷◌, ◌++◌, append_assoc, append-nil}
use native.Mathlib.Omega.{arith}
use lib.ListN.{length, set, length-append}
use Rattle.lists.specs.Lists.{front}
use Rattle.lists.proofs.FrontLaws.{push}
use Rattle.walks.specs.Graph.{Graph, item_count, closed_in, fits}
use Rattle.reason_list.specs.Reasons.{greedy, reasons}

module _ (G : Graph) (s t k : ℕ) (goals marks₀ list₀ : List ℕ) where
  -- the items below i are done: n of them are listed, in front of the list
  pub record Listing (i : ℕ) (marks list : List ℕ) (n : ℕ) : Type 0 where
    pub done : List ℕ
    pub whole : reasons G s t k goals marks₀ ≡ done ++ greedy G s t k goals (item_count G - i) i marks
    pub written : list ≡ front done list₀
    pub counted : n ≡ length done
    pub few : n ≤ i
    pub blocked : fits G s t k (closed_in marks) goals ≡ false

  pub begun : fits G s t k (closed_in marks₀) goals ≡ false → Listing 0 marks₀ list₀ 0
  unfolding reasons
  begun e =
      let c : item_count G ≡ item_count G - 0 = omega arith in
      record { done = []; whole = ap (λ (c : ℕ). greedy G s t k goals c 0 marks₀) c; written = refl; counted = refl; few = omega arith; blocked = e }

  module _ {i : ℕ} {marks list : List ℕ} {n : ℕ} (below : i < item_count G) (L : Listing i marks list n) where
    -- the greedy list from i on, by what it does with i
    rest : greedy G s t k goals (item_count G - i) i marks ≡ greedy G s t k goals (suc (item_count G - (i + 1))) i marks
    rest = ap (λ (c : ℕ). greedy G s t k goals c i marks) (omega arith)

    next : (marks' : List ℕ) → greedy G s t k goals (item_count G - (i + 1)) (suc i) marks' ≡ greedy G s t k goals (item_count G - (i + 1)) (i + 1) marks'
    next marks' = ap (λ (j : ℕ). greedy G s t k goals (item_count G - (i + 1)) j marks') (omega arith)

    pub passed_on : closed_in marks i ≡ false → Listing (i + 1) marks list n
    unfolding greedy
    passed_on p = record {
      done = L.done;
      whole = L.whole ∙ ap (L.done ++◌) (rest ∙ step ∙ next marks);
      written = L.written;
      counted = L.counted;
      few = omega (arith, L.few);
      blocked = L.blocked;
    }
      where
        step : greedy G s t k goals (suc (item_count G - (i + 1))) i marks ≡ greedy G s t k goals (item_count G - (i + 1)) (suc i) marks
        step = rw (p, greedy)

    pub left_open : closed_in marks i ≡ true → fits G s t k (closed_in (set marks i 0)) goals ≡ false → Listing (i + 1) (set marks i 0) list n
    unfolding greedy
    left_open p q = record {
      done = L.done;
      whole = L.whole ∙ ap (L.done ++◌) (rest ∙ step ∙ next (set marks i 0));
      written = L.written;
      counted = L.counted;
      few = omega (arith, L.few);
      blocked = q;
    }
      where
        step : greedy G s t k goals (suc (item_count G - (i + 1))) i marks ≡ greedy G s t k goals (item_count G - (i + 1)) (suc i) (set marks i 0)
        step = rw (p, q, greedy)

    pub put_down : closed_in marks i ≡ true → fits G s t k (closed_in (set marks i 0)) goals ≡ true → item_count G ≤ length list₀
        → Listing (i + 1) marks (set list n i) (n + 1)
    unfolding greedy
    put_down p q room = record {
      done = L.done ++ i ∷ [];
      whole =
          L.whole ∙ ap (L.done ++◌) (rest ∙ step ∙ ap (i ∷◌) (next marks))
          ∙ sym (append_assoc L.done (i ∷ []) (greedy G s t k goals (item_count G - (i + 1)) (i + 1) marks));
      written =
          ap (λ (l : List ℕ). set l n i) L.written ∙ ap (λ (m : ℕ). set (front L.done list₀) m i) L.counted
          ∙ push L.done list₀ i (omega (arith, L.few, L.counted));
      counted = omega (arith, L.counted, length-append L.done (i ∷ []));
      few = omega (arith, L.few);
      blocked = L.blocked;
    }
      where
        step : greedy G s t k goals (suc (item_count G - (i + 1))) i marks ≡ i ∷ greedy G s t k goals (item_count G - (i + 1)) (suc i) marks
        step = rw (p, q, greedy)

  pub ended : {i : ℕ} {marks list : List ℕ} {n : ℕ} → i ≡ item_count G → Listing i marks list n
      → (list ≡ front (reasons G s t k goals marks₀) list₀) × (n ≡ length (reasons G s t k goals marks₀))
  unfolding greedy
  ended {i} {marks} {list} {n} e L =
      let c : item_count G - i ≡ 0 = omega arith in
      let z : greedy G s t k goals (item_count G - i) i marks ≡ [] = ap (λ (m : ℕ). greedy G s t k goals m i marks) c in
      let w : reasons G s t k goals marks₀ ≡ L.done = L.whole ∙ ap (L.done ++◌) z ∙ append-nil L.done in
      (L.written ∙ ap (λ (xs : List ℕ). front xs list₀) (sym w), L.counted ∙ ap length (sym w))
