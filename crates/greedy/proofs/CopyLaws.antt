-- A list written over the front of zeros. Assumes nothing.
use Prim.Native.Nat.{ℕ, ◌-◌, ◌≤◌}
use mathlib.Core.Path.{◌≡◌, refl, sym, ◌∙◌}
use mathlib.Core.List.{List, ◌++◌}
use native.Mathlib.Omega.{arith}
use native.Mathlib.Decide.{dec_lt}
use lib.ListN.{length, get_or, drop, replicate, length-append, get_or-replicate, length-replicate, get_or-eq_default}
use Rattle.std.proofs.lemmas.List.{drop-replicate, get_or_append_left, get_or-append_right}

zero_in : (n j : ℕ) → ◌≡◌ {A = ℕ} (get_or (replicate n 0) j 0) 0
zero_in n j = elim (dec_lt j n) [
  | yes h ↦ get_or-replicate {A = ℕ} n j 0 0 h
  | no h ↦ get_or-eq_default (replicate n 0) 0 (omega (arith, length-replicate {A = ℕ} n 0))
]

module _ (xs : List ℕ) {m : ℕ} {ys : List ℕ} (short : length xs ≤ m) (e : ys ≡ xs) where
  rest : drop (length xs) (replicate {A = ℕ} m 0) ≡ replicate {A = ℕ} (m - length xs) 0
  rest = drop-replicate {X = ℕ} (length xs) m 0

  pub zeros_behind : (length (ys ++ drop (length xs) (replicate m 0)) ≡ m) × ((j : ℕ) → get_or (ys ++ drop (length xs) (replicate m 0)) j 0 ≡ get_or xs j 0)
  zeros_behind = rw (rest, e) (omega (arith, length-append xs (replicate {A = ℕ} (m - length xs) 0), length-replicate {A = ℕ} (m - length xs) 0), at)
    where
      at : (j : ℕ) → get_or (xs ++ replicate (m - length xs) 0) j 0 ≡ get_or xs j 0
      at j = elim (dec_lt j (length xs)) [
        | yes h ↦ get_or_append_left xs (replicate {A = ℕ} (m - length xs) 0) 0 j h
        | no h ↦
            get_or-append_right {X = ℕ} xs (replicate {A = ℕ} (m - length xs) 0) (length xs) j 0 refl (omega arith) ∙ zero_in (m - length xs) (j - length xs)
            ∙ sym (get_or-eq_default {A = ℕ} xs 0 (omega arith))
      ]
