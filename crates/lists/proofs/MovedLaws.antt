-- The entries of a list that pass a test, moved up in their order, one after the other. Assumes nothing.
use Prim.Native.Nat.{ℕ, ◌+◌, ◌≤◌, ◌<◌}
use mathlib.Core.Path.{◌≡◌, refl, sym, ap, ◌∙◌}
use mathlib.Core.Bool.{Bool, true, false}
use mathlib.Core.List.{List, [], ◌∷◌, ◌++◌, map, append-nil}
use native.Mathlib.Omega.{arith}
use native.Mathlib.Numerals.{add-one}
use lib.ListN.{length, take, drop, get_or, set, length-set}
use lib.Seq.{take-suc, take-suc-set, drop-set-lt, get_or-drop, drop-drop}
use Rattle.lists.specs.Lists.{add, keep}

-- keeping of what is shown is keeping of what shows it
pub keep_map : {A B : Type 0} (g : A → B) (f : B → Bool) (xs : List A) → keep f (map g xs) ≡ map g (keep (λ x. f (g x)) xs)
unfolding keep add
keep_map g f [] = refl
keep_map g f (x ∷ xs) = rw (keep_map g f xs) (go (f (g x)))
  where
    go : (t : Bool) → add t (g x) (map g (keep (λ x. f (g x)) xs)) ≡ map g (add t x (keep (λ x. f (g x)) xs))
    go true = refl
    go false = refl

-- Of the first i entries those that pass the test were moved up in their order, j of them; what is behind i is as it was.
pub record Moved {A : Type 0} (p : A → Bool) (was xs : List A) (i j : ℕ) : Type 0 where
  pub size : length xs ≡ length was
  pub below : j ≤ i
  pub front : take j xs ≡ keep p (take i was)
  pub rest : drop i xs ≡ drop i was

pub begun : {A : Type 0} (p : A → Bool) (xs : List A) → Moved p xs xs 0 0
unfolding keep
begun p xs = record { size = refl; below = omega arith; front = refl; rest = refl }

keep_one : {A : Type 0} (p : A → Bool) (xs : List A) (x : A) {t : Bool} → p x ≡ t → keep p (xs ++ (x ∷ [])) ≡ keep p xs ++ add t x []
unfolding keep add
keep_one p [] x e = rw e
keep_one p (y ∷ ys) x {t} e = rw (keep_one p ys x e) (go (p y))
  where
    go : (s : Bool) → add s y (keep p ys ++ add t x []) ≡ add s y (keep p ys) ++ add t x []
    go true = refl
    go false = refl

module _ {A : Type 0} {p : A → Bool} {was xs : List A} {i j : ℕ} (d : A) (m : Moved p was xs i j) (l : i < length was) where
  same_at : get_or xs i d ≡ get_or was i d
  same_at =
      let a : get_or (drop i xs) 0 d ≡ get_or xs i d = get_or-drop i xs 0 d ∙ ap (λ (k : ℕ). get_or xs k d) (omega arith) in
      let b : get_or (drop i was) 0 d ≡ get_or was i d = get_or-drop i was 0 d ∙ ap (λ (k : ℕ). get_or was k d) (omega arith) in
      sym a ∙ ap (λ (ys : List A). get_or ys 0 d) m.rest ∙ b

  rest_on : drop (i + 1) xs ≡ drop (i + 1) was
  rest_on = sym (drop-drop 1 i xs) ∙ ap (drop 1) m.rest ∙ drop-drop 1 i was

  kept_on : {t : Bool} → p (get_or xs i d) ≡ t → keep p (take i was) ++ add t (get_or xs i d) [] ≡ keep p (take (i + 1) was)
  kept_on e = sym (keep_one p (take i was) (get_or xs i d) e) ∙ ap (λ (x : A). keep p (take i was ++ (x ∷ []))) same_at ∙ ap (keep p) (sym (rw (add-one i) (take-suc was i d l)))

  pub more_kept : p (get_or xs i d) ≡ true → Moved p was (set xs j (get_or xs i d)) (i + 1) (j + 1)
  unfolding add
  more_kept e = record {
    size = length-set xs j _ ∙ m.size;
    below = omega (arith, m.below);
    front = rw (add-one j) (take-suc-set xs j _ (omega (arith, m.below, m.size, l))) ∙ ap (λ (ys : List A). ys ++ (get_or xs i d ∷ [])) m.front ∙ kept_on e;
    rest = drop-set-lt (i + 1) xs j _ (omega (arith, m.below)) ∙ rest_on;
  }

  pub more_dropped : p (get_or xs i d) ≡ false → Moved p was xs (i + 1) j
  unfolding add
  more_dropped e = record { size = m.size; below = omega (arith, m.below); front = m.front ∙ sym (append-nil (keep p (take i was))) ∙ kept_on e; rest = rest_on }
