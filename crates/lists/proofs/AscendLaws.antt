-- Ascending lists: entries kept from a span ascend, and what ascends has no repeats. Assumes nothing.
use Prim.Native.Nat.{ℕ, zero, suc, ◌+◌, ◌≤◌, ◌<◌}
use mathlib.Core.Path.{◌≡◌, refl, sym, ap, ◌∙◌}
use mathlib.Core.Logic.{⊎_elim}
use mathlib.Core.Bool.{Bool, true, false}
use mathlib.Core.List.{List, [], ◌∷◌, map}
use native.Mathlib.Omega.{arith}
use lib.ListN.{length, get_or}
use lib.Dec.{ltb}
use borrow.Author.Tests.{ltb-true, ltb-false, lt-ltb}
use Rattle.lists.proofs.MemberLaws.{member_cases, member_none, member_head, member_tail, member_keep, keep_member}
use Rattle.lists.proofs.TestLaws.{and_true, true_and, false_of}
use Rattle.lists.specs.Lists.{member, add, keep, span, ascends, Distinct}

-- the entries ascend, from a on
abbrev pub Rising : ℕ → List ℕ → Type 0
Rising a [] = Unit {0}
Rising a (x ∷ xs) = (a ≤ x) × Rising (suc x) xs

pub rising_from : (a b : ℕ) (xs : List ℕ) → a ≤ b → Rising b xs → Rising a xs
rising_from a b [] h r = tt
rising_from a b (x ∷ xs) h r = (omega (arith, r.0), r.1)

pub rising_ascends : (a : ℕ) (xs : List ℕ) → Rising a xs → ascends xs ≡ true
unfolding ascends
rising_ascends a [] r = refl
rising_ascends a (x ∷ []) r = refl
rising_ascends a (x ∷ y ∷ ys) r = true_and (lt-ltb x y (omega (arith, r.1.0))) (rising_ascends (suc x) (y ∷ ys) r.1)

pub ascends_rising : (xs : List ℕ) → ascends xs ≡ true → Rising 0 xs
unfolding ascends
ascends_rising [] e = tt
ascends_rising (x ∷ []) e = (omega arith, tt)
ascends_rising (x ∷ y ∷ ys) e =
    let s = and_true (ltb x y) (ascends (y ∷ ys)) e in
    let r = ascends_rising (y ∷ ys) s.1 in
    (omega arith, (omega (arith, ltb-true x y s.0), r.1))

rising_member : (a : ℕ) (xs : List ℕ) → Rising a xs → (x : ℕ) → member x xs ≡ true → a ≤ x
rising_member a [] r x m = absurd (member_none x m)
rising_member a (y ∷ ys) r x m =
    ⊎_elim (λ q. omega (arith, r.0)) (λ q. omega (arith, r.0, rising_member (suc y) ys r.1 x q)) (member_cases x y ys m)

pub rising_distinct : (a : ℕ) (xs : List ℕ) → Rising a xs → Distinct xs
rising_distinct a [] r = tt
rising_distinct a (x ∷ xs) r =
    (false_of (member x xs) (λ m. absurd (omega (arith, rising_member (suc x) xs r.1 x m))), rising_distinct (suc x) xs r.1)

-- what ascends has no repeats
pub ascends_distinct : (xs : List ℕ) → ascends xs ≡ true → Distinct xs
ascends_distinct xs e = rising_distinct 0 xs (ascends_rising xs e)

add_rising : (t : Bool) (a : ℕ) (xs : List ℕ) → Rising (suc a) xs → Rising a (add t a xs)
unfolding add
add_rising true a xs r = (omega arith, r)
add_rising false a xs r = rising_from a (suc a) xs (omega arith) r

pub keep_rising : (f : ℕ → Bool) (k a : ℕ) → Rising a (keep f (span k a))
unfolding keep span
keep_rising f zero a = tt
keep_rising f (suc k) a = add_rising (f a) a (keep f (span k (suc a))) (keep_rising f k (suc a))

-- entries kept from a span ascend
pub keep_ascends : (f : ℕ → Bool) (k a : ℕ) → ascends (keep f (span k a)) ≡ true
keep_ascends f k a = rising_ascends a (keep f (span k a)) (keep_rising f k a)

-- the entries of a span
pub span_member : (k a x : ℕ) → member x (span k a) ≡ true → (a ≤ x) × (x < a + k)
unfolding span
span_member zero a x e = absurd (member_none x e)
span_member (suc k) a x e =
    ⊎_elim (λ p. (omega arith, omega arith)) (λ m. let i = span_member k (suc a) x m in (omega (arith, i.0), omega (arith, i.1)))
    (member_cases x a (span k (suc a)) e)

pub member_span : (k a x : ℕ) → a ≤ x → x < a + k → member x (span k a) ≡ true
unfolding span
member_span zero a x h g = absurd (omega arith)
member_span (suc k) a x h g = go (ltb a x) refl (member_span k (suc a) x)
  where
    go : (t : Bool) → ltb a x ≡ t → (suc a ≤ x → x < suc a + k → member x (span k (suc a)) ≡ true) → member x (a ∷ span k (suc a)) ≡ true
    go true q ih = member_tail x a (span k (suc a)) (ih (omega (arith, ltb-true a x q)) (omega arith))
    go false q ih = let z : x ≡ a = omega (arith, ltb-false a x q) in rw z (member_head a (span k (suc a)))

-- the first entry kept from a span is the lowest that passes the test
pub keep_lowest : (f : ℕ → Bool) (k a i : ℕ) (is : List ℕ) → keep f (span k a) ≡ i ∷ is → (j : ℕ) → a ≤ j → j < i → f j ≡ false
keep_lowest f k a i is e j h g = false_of (f j) (λ t. absurd (omega (arith, least t)))
  where
    first : member i (keep f (span k a)) ≡ true
    first = rw e (member_head i is)

    r : Rising a (i ∷ is)
    r = rw e at (keep_rising f k a)

    least : f j ≡ true → i ≤ j
    least t =
        let s = span_member k a i (keep_member f i (span k a) first).0 in
        let m : member j (i ∷ is) ≡ true = rw e at (member_keep f j (span k a) (member_span k a j h (omega (arith, s.1))) t) in
        rising_member i (i ∷ is) (omega arith, r.1) j m

pub length_span : (k a : ℕ) → length (span k a) ≡ k
unfolding span
length_span zero a = refl
length_span (suc k) a = ap suc (length_span k (suc a))

-- a function over a span, by number
pub map_span_at : (f : ℕ → ℕ) (k a i : ℕ) → i < k → get_or (map f (span k a)) i 0 ≡ f (a + i)
unfolding span
map_span_at f zero a i h = absurd (omega arith)
map_span_at f (suc k) a zero h = let e : a ≡ a + 0 = omega arith in ap f e
map_span_at f (suc k) a (suc i) h = let e : suc a + i ≡ a + suc i = omega arith in map_span_at f k (suc a) i (omega arith) ∙ ap f e

-- nothing is kept of a span where nothing passes the test
pub keep_none : (f : ℕ → Bool) (k a : ℕ) → ((j : ℕ) → a ≤ j → j < a + k → f j ≡ false) → keep f (span k a) ≡ []
unfolding keep span add
keep_none f zero a h = refl
keep_none f (suc k) a h = rw (h a (omega arith) (omega arith)) (keep_none f k (suc a) (λ j l g. h j (omega arith) (omega arith)))

-- the first that passes the test is the first kept
pub keep_first : (f : ℕ → Bool) (k a i d : ℕ) → a ≤ i → i < a + k → ((j : ℕ) → a ≤ j → j < i → f j ≡ false) → f i ≡ true → get_or (keep f (span k a)) 0 d ≡ i
unfolding keep span add
keep_first f zero a i d l g n e = absurd (omega arith)
keep_first f (suc k) a i d l g n e = go (ltb a i) refl (keep_first f k (suc a) i d)
  where
    go : (t : Bool) → ltb a i ≡ t
        → (suc a ≤ i → i < suc a + k → ((j : ℕ) → suc a ≤ j → j < i → f j ≡ false) → f i ≡ true → get_or (keep f (span k (suc a))) 0 d ≡ i)
        → get_or (add (f a) a (keep f (span k (suc a)))) 0 d ≡ i
    go true q ih =
        let h = ltb-true a i q in
        rw (n a (omega arith) h) (ih (omega arith) (omega arith) (λ j p r. n j (omega arith) r) e)
    go false q ih = let z : i ≡ a = omega (arith, ltb-false a i q) in let y : f a ≡ true = rw z at e in rw y (sym z)
