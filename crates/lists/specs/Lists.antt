-- Choices, and tests over lists of numbers.
use Rattle.std.specs.Prelude.{ℕ, zero, suc, ◌≡◌, Bool, true, false, not, ◌&&◌, ◌||◌, List, [], ◌∷◌, ◌++◌, length, drop, eqb, ltb}
use Rattle.std.specs.List.{list_all, list_any}

abbrev pub pick : {A : Type 0} → Bool → A → A → A
pick true a b = a
pick false a b = b

-- x is an entry of the list
unfoldable pub member : ℕ → List ℕ → Bool
member x [] = false
member x (y ∷ ys) = eqb x y || member x ys

-- each entry passes the test
abbrev pub every : (ℕ → Bool) → List ℕ → Bool
every f xs = list_all f xs

-- the entries that pass the test
unfoldable pub add : {A : Type 0} → Bool → A → List A → List A
add true x xs = x ∷ xs
add false x xs = xs

unfoldable pub keep : {A : Type 0} → (A → Bool) → List A → List A
keep f [] = []
keep f (x ∷ xs) = add (f x) x (keep f xs)

-- the entries other than x
unfoldable pub without : ℕ → List ℕ → List ℕ
without x xs = keep (λ g. not (eqb g x)) xs

-- each entry of the one list is one of the other
unfoldable pub subset : List ℕ → List ℕ → Bool
subset xs ys = every (λ x. member x ys) xs

-- the lists have the same entries in the same order
unfoldable pub alike : List ℕ → List ℕ → Bool
alike [] [] = true
alike [] (y ∷ ys) = false
alike (x ∷ xs) [] = false
alike (x ∷ xs) (y ∷ ys) = eqb x y && alike xs ys

-- some entry passes the test
abbrev pub any : {A : Type 0} → (A → Bool) → List A → Bool
any f xs = list_any f xs

-- x is an entry of the list, whatever its entries are
pub data Entry {A : Type 0} (x : A) : List A → Type 0 where
  here : {xs : List A} → Entry x (x ∷ xs)
  there : {y : A} {xs : List A} → Entry x xs → Entry x (y ∷ xs)

-- a, a + 1, .. : k numbers
unfoldable pub span : ℕ → ℕ → List ℕ
span zero a = []
span (suc k) a = a ∷ span k (suc a)

-- each entry is greater than the one before it
unfoldable pub ascends : List ℕ → Bool
ascends [] = true
ascends (x ∷ []) = true
ascends (x ∷ y ∷ ys) = ltb x y && ascends (y ∷ ys)

-- each entry and the next pass the test
unfoldable pub each_next : {A : Type 0} → (A → A → Bool) → List A → Bool
each_next f [] = true
each_next f (x ∷ []) = true
each_next f (x ∷ y ∷ ys) = f x y && each_next f (y ∷ ys)

-- no entry stands twice
abbrev pub Distinct : List ℕ → Type 0
Distinct [] = Unit {0}
Distinct (x ∷ xs) = (member x xs ≡ false) × Distinct xs

-- the list d with xs over its front
abbrev pub front : {A : Type 0} → List A → List A → List A
front xs d = xs ++ drop (length xs) d

-- xs stands over the front of d, and n counts it: what a function that writes gives and leaves
abbrev pub Put : {A : Type 0} → List A → List A → List A → ℕ → Type 0
Put xs d out n = (n ≡ length xs) × (out ≡ front xs d)
