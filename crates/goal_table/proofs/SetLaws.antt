-- Sets of goals as numbers, and the law of the last goal for them: the least length over a set is the least over its goals as the last one. Assumes nothing.
use Prim.Native.Nat.{ℕ, zero, suc, ◌+◌, ◌-◌, ◌/◌, ◌%◌, ◌^◌, ◌≤◌, ◌<◌}
use mathlib.Core.Path.{◌≡◌, refl, sym, ap, ◌∙◌, subst}
use mathlib.Core.Logic.{◌⊎◌, inl, inr}
use mathlib.Core.Bool.{Bool, true, false, true≢false}
use mathlib.Core.List.{List, [], ◌∷◌}
use native.Mathlib.Omega.{arith}
use native.Mathlib.Nat.{two-pow-succ, pow-succ', div-div-eq-div-mul, div-one}
use native.Mathlib.Decide.{ℕ_discrete, dec_lt}
use lib.ListN.{length, get_or}
use lib.Dec.{eqb}
use lib.Count.{ones, ones_in, ones_step}
use lib.Pow.{pow_mono}
use borrow.Author.Tests.{eqb-true, eqb-false, ne_eqb}
use Rattle.lists.proofs.MemberLaws.{member_head, member_tail, member_cases, member_none}
use Rattle.lists.specs.Lists.{member, add, Distinct}
use Rattle.walks.proofs.GoalLaws.{Item, Others, Under, under_self, under_lesser, lesser_one, impossible, last_goal_of}
use Rattle.walks.specs.Goals.{lastly}
use Rattle.walks.specs.Graph.{Graph, least}
use Rattle.walks.specs.Lengths.{Least, none, some, lesser}
use Rattle.goal_table.specs.Sets.{odd, has, chosen, given, any_in}

pow_pos : (i : ℕ) → 1 ≤ 2 ^ i
pow_pos zero = omega arith
pow_pos (suc i) = omega (arith, two-pow-succ i, pow_pos i)

odd_digit : (S : ℕ) → odd S ≡ true → S % 2 ≡ 1
unfolding odd
odd_digit S e = eqb-true (S % 2) 1 e

pub has_digit : (S i : ℕ) → has S i ≡ eqb (S / 2 ^ i % 2) 1
unfolding has odd
has_digit S zero = ap (λ (x : ℕ). eqb (x % 2) 1) (sym (div-one S))
has_digit S (suc i) =
    has_digit (S / 2) i ∙ ap (λ (x : ℕ). eqb (x % 2) 1) (div-div-eq-div-mul S 2 (2 ^ i) ∙ ap (λ (x : ℕ). S / x) (sym (pow-succ' 2 i)))

-- a set that has goal i is a number of at least 2 ^ i
pub has_le : (S i : ℕ) → has S i ≡ true → 2 ^ i ≤ S
unfolding has
has_le S zero e = omega (arith, odd_digit S e)
has_le S (suc i) e = omega (arith, two-pow-succ i, has_le (S / 2) i e)

pub has_below : (S i n : ℕ) → S < 2 ^ n → has S i ≡ true → i < n
has_below S i n h e = go (dec_lt i n)
  where
    go : Dec (i < n) → i < n
    go (yes l) = l
    go (no l) = let p : 2 ^ n ≤ 2 ^ i = pow_mono (omega arith) in absurd (omega (arith, has_le S i e))

pub but_less : (S i : ℕ) → has S i ≡ true → S - 2 ^ i < S
but_less S i e = omega (arith, has_le S i e, pow_pos i)

half_but : (S i : ℕ) → has S (suc i) ≡ true → ((S - 2 ^ suc i) / 2 ≡ S / 2 - 2 ^ i) × ((S - 2 ^ suc i) % 2 ≡ S % 2)
half_but S i e = let h = has_le S (suc i) e in let p = two-pow-succ i in (omega arith, omega arith)

-- goal i taken out of the set
pub but_same : (S i : ℕ) → has S i ≡ true → has (S - 2 ^ i) i ≡ false
unfolding has odd
but_same S zero e = ne_eqb ((S - 2 ^ 0) % 2) 1 (λ q. omega (arith, odd_digit S e))
but_same S (suc i) e = rw (half_but S i e).0 (but_same (S / 2) i e)

pub but_other : (S i j : ℕ) → has S i ≡ true → (j ≡ i → ⊥) → has (S - 2 ^ i) j ≡ has S j
unfolding has odd
but_other S zero zero e n = absurd (n refl)
but_other S zero (suc j) e n = let q : (S - 2 ^ 0) / 2 ≡ S / 2 = omega (arith, odd_digit S e) in rw q
but_other S (suc i) zero e n = rw (half_but S i e).1
but_other S (suc i) (suc j) e n = rw (half_but S i e).0 (but_other (S / 2) i j e (λ q. n (ap suc q)))

-- a goal that is chosen is one of those that the set has
pub record Chosen (goals : List ℕ) (S x : ℕ) : Type 0 where
  pub at : ℕ
  pub below : at < length goals
  pub in_set : has S at ≡ true
  pub is : x ≡ get_or goals at 0

pub chosen_has : (goals : List ℕ) (S x : ℕ) → member x (chosen goals S) ≡ true → Chosen goals S x
unfolding chosen has add
chosen_has [] S x m = absurd (member_none x m)
chosen_has (g ∷ gs) S x m = go (odd S) refl m (chosen_has gs (S / 2) x)
  where
    later : Chosen gs (S / 2) x → Chosen (g ∷ gs) S x
    later c = record { at = suc c.at; below = omega (arith, c.below); in_set = c.in_set; is = c.is }

    go₁ : odd S ≡ true → (x ≡ g) ⊎ (member x (chosen gs (S / 2)) ≡ true) → (member x (chosen gs (S / 2)) ≡ true → Chosen gs (S / 2) x) → Chosen (g ∷ gs) S x
    go₁ q (inl e) ih = record { at = 0; below = omega arith; in_set = q; is = e }
    go₁ q (inr e) ih = later (ih e)

    go : (t : Bool) → odd S ≡ t → member x (add t g (chosen gs (S / 2))) ≡ true → (member x (chosen gs (S / 2)) ≡ true → Chosen gs (S / 2) x) → Chosen (g ∷ gs) S x
    go true q e ih = go₁ q (member_cases x g (chosen gs (S / 2)) e) ih
    go false q e ih = later (ih e)

pub has_chosen : (goals : List ℕ) (S i : ℕ) → i < length goals → has S i ≡ true → member (get_or goals i 0) (chosen goals S) ≡ true
unfolding chosen has add
has_chosen [] S i h e = absurd (omega arith)
has_chosen (g ∷ gs) S zero h e = rw e (member_head g (chosen gs (S / 2)))
has_chosen (g ∷ gs) S (suc i) h e = go (odd S) (has_chosen gs (S / 2) i (omega arith) e)
  where
    go : (t : Bool) → member (get_or gs i 0) (chosen gs (S / 2)) ≡ true → member (get_or gs i 0) (add t g (chosen gs (S / 2))) ≡ true
    go true m = member_tail (get_or gs i 0) g (chosen gs (S / 2)) m
    go false m = m

-- as many goals as the number has ones
pub chosen_count : (goals : List ℕ) (S : ℕ) → S < 2 ^ length goals → length (chosen goals S) ≡ ones S
unfolding chosen add odd ones ones_in
chosen_count [] S h = let z : S ≡ 0 = omega arith in rw z refl
chosen_count (g ∷ gs) S h = go (odd S) refl (chosen_count gs (S / 2) (omega (arith, two-pow-succ (length gs)))) ∙ sym (ones_step S)
  where
    zero_of : (x : ℕ) → x < 2 → (x ≡ 1 → ⊥) → x ≡ 0
    zero_of x h n = omega arith

    go : (t : Bool) → eqb (S % 2) 1 ≡ t → length (chosen gs (S / 2)) ≡ ones (S / 2) → length (add t g (chosen gs (S / 2))) ≡ S % 2 + ones (S / 2)
    go true q ih = omega (arith, eqb-true (S % 2) 1 q)
    go false q ih = omega (arith, zero_of (S % 2) (omega arith) (eqb-false (S % 2) 1 q))

chosen_none : (goals : List ℕ) → chosen goals 0 ≡ []
unfolding chosen add odd
chosen_none [] = refl
chosen_none (g ∷ gs) = chosen_none gs

pub length_none : (xs : List ℕ) → length xs ≡ 0 → xs ≡ []
length_none [] e = refl
length_none (x ∷ xs) e = absurd (omega arith)

-- a set holds one goal more than it does without one of them
but_count : (goals : List ℕ) (S i : ℕ) → i < length goals → has S i ≡ true → length (chosen goals S) ≡ 1 + length (chosen goals (S - 2 ^ i))
unfolding chosen has add odd
but_count [] S i h e = absurd (omega arith)
but_count (g ∷ gs) S zero h e =
    let o : (S - 2 ^ 0) % 2 ≡ 0 = omega (arith, odd_digit S e) in
    let q : (S - 2 ^ 0) / 2 ≡ S / 2 = omega (arith, odd_digit S e) in
    rw (e, o, q) (omega arith)
but_count (g ∷ gs) S (suc i) h e = rw ((half_but S i e).0, (half_but S i e).1) (go (odd S) (but_count gs (S / 2) i (omega arith) e))
  where
    go : (t : Bool) → length (chosen gs (S / 2)) ≡ 1 + length (chosen gs (S / 2 - 2 ^ i)) → length (add t g (chosen gs (S / 2))) ≡ 1 + length (add t g (chosen gs (S / 2 - 2 ^ i)))
    go true ih = omega arith
    go false ih = ih

-- a set of one goal is empty without it, and a larger one is not
module _ (goals : List ℕ) (S i : ℕ) (h : S < 2 ^ length goals) (e : has S i ≡ true) where
  one_more : length (chosen goals S) ≡ 1 + length (chosen goals (S - 2 ^ i))
  one_more = but_count goals S i (has_below S i (length goals) h e) e

  pub but_none : length (chosen goals S) ≡ 1 → chosen goals (S - 2 ^ i) ≡ []
  but_none o = length_none (chosen goals (S - 2 ^ i)) (omega (arith, one_more))

  pub but_some : (length (chosen goals S) ≡ 1 → ⊥) → 0 < S - 2 ^ i
  but_some n = go (ℕ_discrete (S - 2 ^ i) 0)
    where
      go : Dec (S - 2 ^ i ≡ 0) → 0 < S - 2 ^ i
      go (yes z) = absurd (n (rw (z, chosen_none) at one_more))
      go (no z) = omega arith

pub chosen_all : (goals : List ℕ) → chosen goals (2 ^ length goals - 1) ≡ goals
unfolding chosen add odd
chosen_all [] = refl
chosen_all (g ∷ gs) =
    let p = two-pow-succ (length gs) in
    let k = pow_pos (length gs) in
    let o : (2 ^ suc (length gs) - 1) % 2 ≡ 1 = omega arith in
    let q : (2 ^ suc (length gs) - 1) / 2 ≡ 2 ^ length gs - 1 = omega arith in
    rw (o, q) (ap (g ∷◌) (chosen_all gs))

member_get_d : (xs : List ℕ) (i : ℕ) → i < length xs → member (get_or xs i 0) xs ≡ true
member_get_d [] i h = absurd (omega arith)
member_get_d (x ∷ xs) zero h = member_head x xs
member_get_d (x ∷ xs) (suc i) h = member_tail (get_or xs i 0) x xs (member_get_d xs i (omega arith))

pub distinct_at : (xs : List ℕ) (i j : ℕ) → Distinct xs → i < length xs → j < length xs → get_or xs i 0 ≡ get_or xs j 0 → i ≡ j
distinct_at [] i j d h k e = absurd (omega arith)
distinct_at (x ∷ xs) zero zero d h k e = refl
distinct_at (x ∷ xs) zero (suc j) d h k e =
    let m : member x xs ≡ true = rw e (member_get_d xs j (omega arith)) in absurd (true≢false (sym m ∙ d.0))
distinct_at (x ∷ xs) (suc i) zero d h k e =
    let m : member x xs ≡ true = rw (← e) (member_get_d xs i (omega arith)) in absurd (true≢false (sym m ∙ d.0))
distinct_at (x ∷ xs) (suc i) (suc j) d h k e = ap suc (distinct_at xs i j d.1 (omega arith) (omega arith) e)

-- the goals of the set but goal i
pub others_but : (goals : List ℕ) (S i : ℕ) → Distinct goals → i < length goals → has S i ≡ true
    → Others (chosen goals S) (get_or goals i 0) (chosen goals (S - 2 ^ i))
others_but goals S i d h e = record { fewer = fewer; more = more }
  where
    fewer : (x : ℕ) → member x (chosen goals (S - 2 ^ i)) ≡ true → (member x (chosen goals S) ≡ true) × (x ≡ get_or goals i 0 → ⊥)
    fewer x m =
        let c = chosen_has goals (S - 2 ^ i) x m in
        let n : c.at ≡ i → ⊥ = λ q. true≢false (sym c.in_set ∙ ap (has (S - 2 ^ i)) q ∙ but_same S i e) in (
          rw c.is (has_chosen goals S c.at c.below (sym (but_other S i c.at e n) ∙ c.in_set)),
          λ q. n (distinct_at goals c.at i d c.below h (sym c.is ∙ q)),
        )

    more : (x : ℕ) → member x (chosen goals S) ≡ true → (x ≡ get_or goals i 0) ⊎ (member x (chosen goals (S - 2 ^ i)) ≡ true)
    more x m = let c = chosen_has goals S x m in go c (ℕ_discrete c.at i)
      where
        go : (c : Chosen goals S x) → Dec (c.at ≡ i) → (x ≡ get_or goals i 0) ⊎ (member x (chosen goals (S - 2 ^ i)) ≡ true)
        go c (yes q) = inl (c.is ∙ ap (λ (k : ℕ). get_or goals k 0) q)
        go c (no q) = inr (rw c.is (has_chosen goals (S - 2 ^ i) c.at c.below (but_other S i c.at e q ∙ c.in_set)))

-- a set of a number above 0 holds a goal
chosen_some : (goals : List ℕ) (S : ℕ) → S < 2 ^ length goals → 0 < S → chosen goals S ≡ [] → ⊥
unfolding chosen add odd
chosen_some [] S h z q = omega arith
chosen_some (g ∷ gs) S h z q = go (odd S) refl q (chosen_some gs (S / 2) (omega (arith, two-pow-succ (length gs))))
  where
    go : (t : Bool) → eqb (S % 2) 1 ≡ t → add t g (chosen gs (S / 2)) ≡ [] → (0 < S / 2 → chosen gs (S / 2) ≡ [] → ⊥) → ⊥
    go true o q ih = let n : ◌≡◌ {A = ℕ} 0 1 = cc in omega arith
    go false o q ih = ih (omega (arith, eqb-false (S % 2) 1 o)) q

lesser_none : (r : Least) → lesser r none ≡ r
unfolding lesser
lesser_none none = refl
lesser_none (some k) = refl

-- The least length over the goals of a set that is not empty, by the last goal.
module _ (G : Graph) (closed : ℕ → Bool) (a b : ℕ) (goals : List ℕ) (S : ℕ) where
  abbrev at_last : ℕ → Least
  at_last i = lastly G closed a b (chosen goals (S - 2 ^ i)) (get_or goals i 0)

  any_one : (n k : ℕ) → any_in G closed a b goals S n ≡ some k → (i : ℕ) × (i < n) × (has S i ≡ true) × (at_last i ≡ some k)
  unfolding any_in given
  any_one zero k e = impossible e
  any_one (suc n) k e = go (lesser_one (any_in G closed a b goals S n) (given (has S n) (at_last n)) k e) (any_one n k)
    where
      Found : ℕ → Type 0
      Found n = (i : ℕ) × (i < n) × (has S i ≡ true) × (at_last i ≡ some k)

      here : (t : Bool) → has S n ≡ t → given t (at_last n) ≡ some k → Found (suc n)
      here true q e = (n, omega arith, q, e)
      here false q e = impossible e

      go : (any_in G closed a b goals S n ≡ some k) ⊎ (given (has S n) (at_last n) ≡ some k) → (any_in G closed a b goals S n ≡ some k → Found n) → Found (suc n)
      go (inl q) ih = let f = ih q in (f.0, omega (arith, f.1), f.2, f.3)
      go (inr q) ih = here (has S n) refl q

  any_all : (n i : ℕ) → i < n → has S i ≡ true → Under (any_in G closed a b goals S n) (at_last i)
  unfolding any_in given
  any_all zero i h e = absurd (omega arith)
  any_all (suc n) i h e = go (ℕ_discrete i n) (any_all n i)
    where
      go : Dec (i ≡ n) → (i < n → has S i ≡ true → Under (any_in G closed a b goals S n) (at_last i)) → Under (any_in G closed a b goals S (suc n)) (at_last i)
      go (yes q) ih =
          let e' : has S n ≡ true = ap (has S) (sym q) ∙ e in
          rw (q, e') (under_lesser (any_in G closed a b goals S n) (at_last n) (at_last n) (inr (under_self (at_last n))))
      go (no q) ih = under_lesser (any_in G closed a b goals S n) (given (has S n) (at_last n)) (at_last i) (inl (ih (omega arith) e))

  -- no goal of the set from k to below i: none more to look at
  pub any_skips : (k i : ℕ) → k ≤ i → ((j : ℕ) → k ≤ j → j < i → has S j ≡ false) → any_in G closed a b goals S i ≡ any_in G closed a b goals S k
  unfolding any_in given
  any_skips k zero h f = let q : k ≡ 0 = omega arith in rw q
  any_skips k (suc i) h f = go (ℕ_discrete k (suc i)) (any_skips k i)
    where
      go : Dec (k ≡ suc i) → (k ≤ i → ((j : ℕ) → k ≤ j → j < i → has S j ≡ false) → any_in G closed a b goals S i ≡ any_in G closed a b goals S k)
          → any_in G closed a b goals S (suc i) ≡ any_in G closed a b goals S k
      go (yes q) ih = ap (any_in G closed a b goals S) (sym q)
      go (no q) ih = let e : has S i ≡ false = f i (omega arith) (omega arith) in rw (e, lesser_none) (ih (omega arith) (λ j l m. f j l (omega arith)))

  pub last_in : Distinct goals → ((i : ℕ) → i < length goals → Item G (get_or goals i 0)) → S < 2 ^ length goals → 0 < S
      → least G closed (chosen goals S) a b ≡ any_in G closed a b goals S (length goals)
  last_in d items h z =
      last_goal_of G closed (chosen goals S) a b (any_in G closed a b goals S (length goals))
      (λ g m. let c = chosen_has goals S g m in rw c.is (items c.at c.below))
      (chosen_some goals S h z)
      (record { one = one; all = all })
    where
      one : (k : ℕ) → any_in G closed a b goals S (length goals) ≡ some k
          → (g : ℕ) × (hs : List ℕ) × (member g (chosen goals S) ≡ true) × Others (chosen goals S) g hs × (lastly G closed a b hs g ≡ some k)
      one k e =
          let f = any_one (length goals) k e in
          (get_or goals f.0 0, chosen goals (S - 2 ^ f.0), has_chosen goals S f.0 f.1 f.2, others_but goals S f.0 d f.1 f.2, f.3)

      all : (g : ℕ) → member g (chosen goals S) ≡ true
          → (hs : List ℕ) × Others (chosen goals S) g hs × Under (any_in G closed a b goals S (length goals)) (lastly G closed a b hs g)
      all g m = go (chosen_has goals S g m)
        where
          go : Chosen goals S g → (hs : List ℕ) × Others (chosen goals S) g hs × Under (any_in G closed a b goals S (length goals)) (lastly G closed a b hs g)
          go c =
              subst
              (λ (x : ℕ). (hs : List ℕ) × Others (chosen goals S) x hs × Under (any_in G closed a b goals S (length goals)) (lastly G closed a b hs x))
              (sym c.is)
              (chosen goals (S - 2 ^ c.at), others_but goals S c.at d c.below c.in_set, any_all (length goals) c.at c.below c.in_set)
