-- Laws on the entries of a list of any kind, on what is kept of it, and on lists of numbers that are alike or subsets. Assumes nothing.
use Prim.Native.Nat.{ℕ}
use mathlib.Core.Path.{◌≡◌, refl, sym, ap, ◌∙◌, subst}
use mathlib.Core.Logic.{◌⊎◌, inl, inr, ⊎_elim, ◌↔◌}
use mathlib.Core.Bool.{Bool, true, false, false≢true, true≢false}
use mathlib.Core.List.{List, [], ◌∷◌, ◌++◌}
use lib.Dec.{eqb}
use borrow.Author.Tests.{eqb-true, eq-eqb}
use Rattle.lists.proofs.MemberLaws.{every_at, every_all}
use Rattle.lists.proofs.TestLaws.{and_true, true_and, or_true, or_of, false_of}
use Rattle.lists.specs.Lists.{member, every, add, keep, subset, alike, any, Entry, here, there}

module _ {A : Type 0} where
  pub entry_none : {x : A} → Entry x [] → ⊥
  entry_none = elim [ ]

  pub entry_cases : {x y : A} {ys : List A} → Entry x (y ∷ ys) → (x ≡ y) ⊎ Entry x ys
  entry_cases here = inl refl
  entry_cases (there e) = inr e

  pub entry_one : {x y : A} → Entry x (y ∷ []) → x ≡ y
  entry_one e = ⊎_elim (λ q. q) (λ q. absurd (entry_none q)) (entry_cases e)

  -- the entries of two lists in a row
  pub entry_left : {x : A} {xs : List A} (ys : List A) → Entry x xs → Entry x (xs ++ ys)
  entry_left ys here = here
  entry_left ys (there e) = there (entry_left ys e)

  pub entry_right : {x : A} (xs : List A) {ys : List A} → Entry x ys → Entry x (xs ++ ys)
  entry_right [] e = e
  entry_right (y ∷ xs) e = there (entry_right xs e)

  pub entry_append : {x : A} (xs : List A) {ys : List A} → Entry x (xs ++ ys) → Entry x xs ⊎ Entry x ys
  entry_append [] e = inr e
  entry_append (y ∷ xs) here = inl here
  entry_append (y ∷ xs) (there e) = ⊎_elim (λ q. inl (there q)) inr (entry_append xs e)

  -- some entry passes the test
  pub any_exact : (f : A → Bool) (xs : List A) → (any f xs ≡ true) ↔ ((x : A) × Entry x xs × (f x ≡ true))
  any_exact f xs = (forth xs, λ w. back xs w.0 w.1 w.2)
    where
      forth : (xs : List A) → any f xs ≡ true → (x : A) × Entry x xs × (f x ≡ true)
      forth [] e = absurd (false≢true e)
      forth (y ∷ ys) e = ⊎_elim (λ q. (y, here, q)) (λ q. let w = forth ys q in (w.0, there w.1, w.2)) (or_true (f y) (any f ys) e)

      back : (xs : List A) (x : A) → Entry x xs → f x ≡ true → any f xs ≡ true
      back [] x m q = elim m [ ]
      back (y ∷ ys) x here q = or_of (f y) (any f ys) (inl q)
      back (y ∷ ys) x (there e) q = or_of (f y) (any f ys) (inr (back ys x e q))

  -- no entry passes the test
  pub none_exact : (f : A → Bool) (xs : List A) → (any f xs ≡ false) ↔ ((x : A) → Entry x xs → f x ≡ false)
  none_exact f xs = (
    λ e x m. false_of (f x) (λ q. true≢false (sym ((any_exact f xs).1 (x, m, q)) ∙ e)),
    λ h. false_of (any f xs) (λ q. let w = (any_exact f xs).0 q in true≢false (sym w.2 ∙ h w.0 w.1)),
  )

  pub any_last : (f : A → Bool) (xs : List A) (x : A) → any f (xs ++ (x ∷ [])) ≡ false → f x ≡ false
  any_last f xs x e = (none_exact f (xs ++ (x ∷ []))).0 e x (entry_right xs here)

  -- what is kept is an entry and passes the test
  pub keep_entry : (f : A → Bool) {x : A} (xs : List A) → Entry x (keep f xs) → Entry x xs × (f x ≡ true)
  unfolding keep add
  keep_entry f [] e = absurd (entry_none e)
  keep_entry f {x} (y ∷ ys) e = go (f y) refl e (keep_entry f ys)
    where
      go : (t : Bool) → f y ≡ t → Entry x (add t y (keep f ys)) → (Entry x (keep f ys) → Entry x ys × (f x ≡ true)) → Entry x (y ∷ ys) × (f x ≡ true)
      go true q e ih = ⊎_elim (λ p. (subst (λ (z : A). Entry z (y ∷ ys)) (sym p) here, ap f p ∙ q)) (λ m. let s = ih m in (there s.0, s.1)) (entry_cases e)
      go false q e ih = let s = ih e in (there s.0, s.1)

  -- an entry that passes the test is kept
  pub entry_keep : (f : A → Bool) {x : A} (xs : List A) → Entry x xs → f x ≡ true → Entry x (keep f xs)
  unfolding keep add
  entry_keep f {x = x} [] m q = elim m [ ]
  entry_keep f (y ∷ ys) here q = rw q here
  entry_keep f {x} (y ∷ ys) (there e) q = later (f y) (entry_keep f ys e q)
    where
      later : (t : Bool) → Entry x (keep f ys) → Entry x (add t y (keep f ys))
      later true m = there m
      later false m = m

-- tests that agree everywhere
pub every_same : (f g : ℕ → Bool) → ((x : ℕ) → f x ≡ g x) → (xs : List ℕ) → every f xs ≡ every g xs
every_same f g h [] = refl
every_same f g h (x ∷ xs) = rw (h x, every_same f g h xs)

-- a subset by its entries
pub subset_exact : (xs ys : List ℕ) → (subset xs ys ≡ true) ↔ ((x : ℕ) → member x xs ≡ true → member x ys ≡ true)
unfolding subset
subset_exact xs ys = (λ e x m. every_at (λ x. member x ys) xs x e m, every_all (λ x. member x ys) xs)

-- lists that are alike are equal
pub alike_exact : (xs ys : List ℕ) → (alike xs ys ≡ true) ↔ (xs ≡ ys)
unfolding alike
alike_exact xs ys = (forth xs ys, λ e. subst (λ (zs : List ℕ). alike xs zs ≡ true) e (same xs))
  where
    forth : (xs ys : List ℕ) → alike xs ys ≡ true → xs ≡ ys
    forth [] [] e = refl
    forth [] (y ∷ ys) e = absurd (false≢true e)
    forth (x ∷ xs) [] e = absurd (false≢true e)
    forth (x ∷ xs) (y ∷ ys) e = let s = and_true (eqb x y) (alike xs ys) e in rw (eqb-true x y s.0, forth xs ys s.1)

    same : (xs : List ℕ) → alike xs xs ≡ true
    same [] = refl
    same (x ∷ xs) = true_and (eq-eqb x x refl) (same xs)
