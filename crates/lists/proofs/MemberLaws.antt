-- Laws on the entries of lists. Assumes nothing.
use Prim.Native.Nat.{ℕ, zero, suc, ◌<◌}
use mathlib.Core.Path.{◌≡◌, refl, sym, ap, ◌∙◌}
use mathlib.Core.Logic.{◌⊎◌, inl, inr, ⊎_elim}
use mathlib.Core.Bool.{Bool, true, false, ◌||◌, false≢true, true≢false}
use mathlib.Core.List.{List, [], ◌∷◌}
use native.Mathlib.Omega.{arith}
use lib.ListN.{length, get_or}
use lib.Dec.{eqb}
use borrow.Author.Tests.{eqb-true, eq-eqb}
use Rattle.lists.proofs.TestLaws.{and_true, true_and, true_or}
use Rattle.lists.specs.Lists.{member, every, keep, add}

pub member_head : (x : ℕ) (xs : List ℕ) → member x (x ∷ xs) ≡ true
unfolding member
member_head x xs = rw (eq-eqb x x refl)

pub member_tail : (x y : ℕ) (xs : List ℕ) → member x xs ≡ true → member x (y ∷ xs) ≡ true
unfolding member
member_tail x y xs e = true_or (eqb x y) (member x xs) e

pub member_cases : (x y : ℕ) (ys : List ℕ) → member x (y ∷ ys) ≡ true → (x ≡ y) ⊎ (member x ys ≡ true)
unfolding member
member_cases x y ys e = go (eqb x y) refl e
  where
    go : (t : Bool) → eqb x y ≡ t → (t || member x ys) ≡ true → (x ≡ y) ⊎ (member x ys ≡ true)
    go true q e' = inl (eqb-true x y q)
    go false q e' = inr e'

pub member_none : (x : ℕ) → member x [] ≡ true → ⊥
unfolding member
member_none x e = false≢true e

-- the entry of a list of one
pub member_one : (x y : ℕ) → member x (y ∷ []) ≡ true → x ≡ y
member_one x y m = ⊎_elim (λ q. q) (λ q. absurd (member_none x q)) (member_cases x y [] m)

-- an entry that passes the test is kept
pub member_keep : (f : ℕ → Bool) (x : ℕ) (xs : List ℕ) → member x xs ≡ true → f x ≡ true → member x (keep f xs) ≡ true
unfolding keep add
member_keep f x [] m e = absurd (member_none x m)
member_keep f x (y ∷ ys) m e = go (member_cases x y ys m) (λ q. member_keep f x ys q e)
  where
    later : (t : Bool) → member x (keep f ys) ≡ true → member x (add t y (keep f ys)) ≡ true
    later true q = member_tail x y (keep f ys) q
    later false q = q

    go : (x ≡ y) ⊎ (member x ys ≡ true) → (member x ys ≡ true → member x (keep f ys) ≡ true) → member x (add (f y) y (keep f ys)) ≡ true
    go (inl q) ih = let p : f y ≡ true = ap f (sym q) ∙ e in rw (p, q) (member_head y (keep f ys))
    go (inr q) ih = later (f y) (ih q)

-- what is kept is an entry and passes the test
pub keep_member : (f : ℕ → Bool) (x : ℕ) (xs : List ℕ) → member x (keep f xs) ≡ true → (member x xs ≡ true) × (f x ≡ true)
unfolding keep add
keep_member f x [] m = absurd (member_none x m)
keep_member f x (y ∷ ys) m = go (f y) refl m (keep_member f x ys)
  where
    Kept : Type 0
    Kept = (member x (y ∷ ys) ≡ true) × (f x ≡ true)

    later : (member x ys ≡ true) × (f x ≡ true) → Kept
    later p = (member_tail x y ys p.0, p.1)

    go₁ : f y ≡ true → (x ≡ y) ⊎ (member x (keep f ys) ≡ true) → (member x (keep f ys) ≡ true → (member x ys ≡ true) × (f x ≡ true)) → Kept
    go₁ q (inl e) ih = (rw e (member_head y ys), ap f e ∙ q)
    go₁ q (inr e) ih = later (ih e)

    go : (t : Bool) → f y ≡ t → member x (add t y (keep f ys)) ≡ true
        → (member x (keep f ys) ≡ true → (member x ys ≡ true) × (f x ≡ true)) → Kept
    go true q e ih = go₁ q (member_cases x y (keep f ys) e) ih
    go false q e ih = later (ih e)

pub every_at : (f : ℕ → Bool) (xs : List ℕ) (x : ℕ) → every f xs ≡ true → member x xs ≡ true → f x ≡ true
every_at f [] x e m = absurd (member_none x m)
every_at f (y ∷ ys) x e m =
    let s = and_true (f y) (every f ys) e in ⊎_elim (λ q. ap f q ∙ s.0) (every_at f ys x s.1) (member_cases x y ys m)

pub every_all : (f : ℕ → Bool) (xs : List ℕ) → ((x : ℕ) → member x xs ≡ true → f x ≡ true) → every f xs ≡ true
every_all f [] h = refl
every_all f (y ∷ ys) h = true_and (h y (member_head y ys)) (every_all f ys (λ x q. h x (member_tail x y ys q)))

-- an entry of a list has a place
pub member_place : (x : ℕ) (xs : List ℕ) → member x xs ≡ true → (k : ℕ) × (k < length xs) × (x ≡ get_or xs k 0)
member_place x [] m = absurd (member_none x m)
member_place x (y ∷ ys) m = go (member_cases x y ys m) (member_place x ys)
  where
    go : (x ≡ y) ⊎ (member x ys ≡ true) → (member x ys ≡ true → (k : ℕ) × (k < length ys) × (x ≡ get_or ys k 0))
        → (k : ℕ) × (k < length (y ∷ ys)) × (x ≡ get_or (y ∷ ys) k 0)
    go (inl q) ih = (0, omega arith, q)
    go (inr q) ih = let t = ih q in (suc t.0, omega (arith, t.1), t.2)

-- and what stands at a place is an entry
pub place_member : (xs : List ℕ) (j : ℕ) → j < length xs → member (get_or xs j 0) xs ≡ true
place_member [] j h = absurd (omega arith)
place_member (y ∷ ys) zero h = member_head y ys
place_member (y ∷ ys) (suc j) h = member_tail (get_or ys j 0) y ys (place_member ys j (omega arith))

pub member_away : (x : ℕ) (xs : List ℕ) → member x xs ≡ false → (j : ℕ) → j < length xs → get_or xs j 0 ≡ x → ⊥
member_away x xs e j h q = true≢false (sym (rw q at (place_member xs j h)) ∙ e)
