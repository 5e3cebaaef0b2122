-- Lists without repeats, and the pigeonhole rule. Assumes nothing.
use Prim.Native.Nat.{ℕ, zero, suc, ◌+◌, ◌*◌, ◌≤◌, ◌<◌}
use mathlib.Core.Path.{◌≡◌, refl, sym, ap, ◌∙◌, subst}
use mathlib.Core.Bool.{Bool, true, false, not}
use mathlib.Core.List.{List, [], ◌∷◌, ◌++◌}
use native.Mathlib.Omega.{arith}
use native.Mathlib.Nat.{mul-le-mul_left, lt_of_not-le}
use lib.ListN.{length}
use lib.Dec.{eqb}
use borrow.Author.Tests.{eqb-true, eqb-false, ne_eqb}
use Rattle.lists.proofs.MemberLaws.{member_head, member_tail}
use Rattle.lists.proofs.TestLaws.{or_false}
use Rattle.lists.specs.Lists.{member, keep, add, without, Distinct}

-- ys is xs, or has fewer entries
abbrev pub Shrunk : {A : Type 0} → List A → List A → Type 0
Shrunk xs ys = (length ys ≤ length xs) × (length ys ≡ length xs → ys ≡ xs)

add_shrunk : {A : Type 0} (b : Bool) (x : A) {xs ys : List A} → Shrunk xs ys → Shrunk (x ∷ xs) (add b x ys)
unfolding add
add_shrunk true x s = (omega arith, λ e. ap (x ∷◌) (s.1 (omega arith)))
add_shrunk false x s = (omega arith, λ e. absurd (omega arith))

pub keep_shrunk : {A : Type 0} (f : A → Bool) (xs : List A) → Shrunk xs (keep f xs)
unfolding keep
keep_shrunk f [] = (omega arith, λ e. refl)
keep_shrunk f (x ∷ xs) = add_shrunk (f x) x (keep_shrunk f xs)

pub shrunk_trans : {xs ys zs : List ℕ} → Shrunk xs ys → Shrunk ys zs → Shrunk xs zs
shrunk_trans s t = (omega arith, λ e. t.1 (omega arith) ∙ s.1 (omega arith))

abbrev pub Below : ℕ → List ℕ → Type 0
Below n [] = Unit {0}
Below n (x ∷ xs) = (x < n) × Below n xs

absent_add : (b : Bool) (x y : ℕ) (ys : List ℕ) → eqb x y ≡ false → member x ys ≡ false → member x (add b y ys) ≡ false
unfolding add member
absent_add true x y ys p q = rw (p, q)
absent_add false x y ys p q = q

absent_keep : (f : ℕ → Bool) (x : ℕ) (xs : List ℕ) → member x xs ≡ false → member x (keep f xs) ≡ false
unfolding keep member
absent_keep f x [] e = refl
absent_keep f x (y ∷ ys) e =
    let s = or_false (eqb x y) (member x ys) e in absent_add (f y) x y (keep f ys) s.0 (absent_keep f x ys s.1)

distinct_add : (b : Bool) (x : ℕ) (xs : List ℕ) → member x xs ≡ false → Distinct xs → Distinct (add b x xs)
unfolding add
distinct_add true x xs p d = (p, d)
distinct_add false x xs p d = d

distinct_keep : (f : ℕ → Bool) (xs : List ℕ) → Distinct xs → Distinct (keep f xs)
unfolding keep
distinct_keep f [] d = tt
distinct_keep f (x ∷ xs) d = distinct_add (f x) x (keep f xs) (absent_keep f x xs d.0) (distinct_keep f xs d.1)

below_add : (b : Bool) (n x : ℕ) (xs : List ℕ) → eqb x n ≡ b → x < suc n → Below n xs → Below n (add (not b) x xs)
unfolding add
below_add true n x xs e h r = r
below_add false n x xs e h r = let ne : x ≡ n → ⊥ = eqb-false x n e in (omega arith, r)

below_without : (n : ℕ) (xs : List ℕ) → Below (suc n) xs → Below n (without n xs)
unfolding without keep
below_without n [] b = tt
below_without n (x ∷ xs) b = below_add (eqb x n) n x (without n xs) refl b.0 (below_without n xs b.1)

absent_without : (n : ℕ) (xs : List ℕ) → member n xs ≡ false → without n xs ≡ xs
unfolding without keep member add
absent_without n [] e = refl
absent_without n (x ∷ xs) e =
    let s = or_false (eqb n x) (member n xs) e in
    let o : eqb x n ≡ false = ne_eqb x n (λ q. eqb-false n x s.0 (sym q)) in
    rw (o, absent_without n xs s.1)

length_add : (b : Bool) (n x : ℕ) (xs : List ℕ) → eqb x n ≡ b → member x xs ≡ false → length xs ≤ suc (length (without n xs))
    → suc (length xs) ≤ suc (length (add (not b) x (without n xs)))
unfolding add
length_add true n x xs e p h =
    let q : member n xs ≡ false = subst (λ (k : ℕ). member k xs ≡ false) (eqb-true x n e) p in
    rw (absent_without n xs q) (omega arith)
length_add false n x xs e p h = omega arith

length_without : (n : ℕ) (xs : List ℕ) → Distinct xs → length xs ≤ suc (length (without n xs))
unfolding without keep
length_without n [] d = omega arith
length_without n (x ∷ xs) d = length_add (eqb x n) n x xs refl d.0 (length_without n xs d.1)

-- a list of different numbers below n has at most n entries
pub pigeonhole : (n : ℕ) (xs : List ℕ) → Distinct xs → Below n xs → length xs ≤ n
pigeonhole zero [] d b = omega arith
pigeonhole zero (x ∷ xs) d b = omega (arith, b.0)
pigeonhole (suc n) xs d b =
    let d' : Distinct (without n xs) = unfold without in distinct_keep (λ g. not (eqb g n)) xs d in
    let ih : length (without n xs) ≤ n = pigeonhole n (without n xs) d' (below_without n xs b) in
    let h : length xs ≤ suc (length (without n xs)) = length_without n xs d in
    omega arith

-- a pair of numbers, the first below n, as one number
pair_le : (n a k a' k' : ℕ) → a < n → a' < n → a + n * k ≡ a' + n * k' → k ≤ k'
pair_le n a k a' k' h h' e =
    let s : k < suc k' = lt_of_not-le (λ q. let z : n * suc k' ≤ n * k = mul-le-mul_left n q in absurd (omega arith)) in
    omega arith

pub pair_eq : (n a k a' k' : ℕ) → a < n → a' < n → a + n * k ≡ a' + n * k' → (a ≡ a') × (k ≡ k')
pair_eq n a k a' k' h h' e =
    let q : k ≡ k' = omega (arith, pair_le n a k a' k' h h' e, pair_le n a' k' a k h' h (sym e)) in
    let z : n * k ≡ n * k' = ap (n *◌) q in
    (omega arith, q)

pub below_append : (n : ℕ) (xs ys : List ℕ) → Below n xs → Below n ys → Below n (xs ++ ys)
below_append n [] ys b c = c
below_append n (x ∷ xs) ys b c = (b.0, below_append n xs ys b.1 c)

pub below_parts : (n : ℕ) (xs ys : List ℕ) → Below n (xs ++ ys) → Below n xs × Below n ys
below_parts n [] ys b = (tt, b)
below_parts n (x ∷ xs) ys b = let s = below_parts n xs ys b.1 in ((b.0, s.0), s.1)

pub below_le : (n m : ℕ) (xs : List ℕ) → n ≤ m → Below n xs → Below m xs
below_le n m [] h b = tt
below_le n m (x ∷ xs) h b = (omega (arith, b.0), below_le n m xs h b.1)

-- entry by entry
pub below_all : (n : ℕ) (xs : List ℕ) → ((x : ℕ) → member x xs ≡ true → x < n) → Below n xs
below_all n [] h = tt
below_all n (x ∷ xs) h = (h x (member_head x xs), below_all n xs (λ y m. h y (member_tail y x xs m)))
