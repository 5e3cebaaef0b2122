-- Laws of the sheet's numbers and arcs, as a reader meets them: each result of one reading decides the next step. Assumes nothing.
use Prim.Native.Nat.{ℕ, suc}
use mathlib.Core.Path.{◌≡◌, refl, ap, sym, ◌∙◌}
use mathlib.Core.List.{List}
use mathlib.Core.Bool.{Bool, true, false, not, ◌&&◌}
use lib.Dec.{ltb, leb, eqb, leb-suc-suc}
use borrow.Author.Tests.{eq-eqb, ne_eqb}
use Rattle.lists.specs.Lists.{pick}
use Rattle.varint.specs.Varint.{Read, got, refuse, after, read_number, number, judged}
use Rattle.sheet.specs.Reader.{read_mark, read_service}

abbrev pub under : ℕ → ℕ → Bool
under end x = ltb x end

-- two tests in turn are one
after_and :
    (e : ℕ) (p q : ℕ → Bool) (r : Read ℕ) → after r (judged e (λ x. p x && q x)) ≡ after (after r (judged e p)) (judged e q)
unfolding after judged
after_and e p q (got x bs) = go (p x)
  where
    go : (t : Bool) → pick (t && q x) (got x bs) (refuse e) ≡ after (pick t (got x bs) (refuse e)) (judged e q)
    go true = refl
    go false = refl
after_and e p q (refuse n) = refl

pub number_and : (e : ℕ) (p q : ℕ → Bool) (bs : List ℕ) → number e (λ x. p x && q x) bs ≡ after (number e p bs) (judged e q)
unfolding number
number_and e p q bs = after_and e p q (read_number bs)

-- at most k is below k + 1
pub number_most : (e k : ℕ) (bs : List ℕ) → number e (λ x. leb x k) bs ≡ number e (under (suc k)) bs
number_most e k bs = ap (λ (f : ℕ → Bool). number e f bs) (λ i x. sym (leb-suc-suc x k) i)

pub mark_number : (bs : List ℕ) → read_mark bs ≡ number 11 (under 3) bs
unfolding read_mark
mark_number bs = number_most 11 2 bs

pub service_number : (bs : List ℕ) → read_service bs ≡ number 11 (under 601) bs
unfolding read_service
service_number bs = number_most 11 600 bs

-- Two different numbers below n and one of at most k, as the ends of an arc and its minutes are read, and source, target and limit.
abbrev pub ends_then : {A : Type 0} → ℕ → ℕ → ℕ → ℕ → (ℕ → ℕ → ℕ → A) → List ℕ → Read A
ends_then why last n k build bs =
    after (number why (under n) bs)
    (λ a bs₁. after (number why (λ x. under n x && not (eqb x a)) bs₁) (λ b bs₂. after (number last (λ x. leb x k) bs₂) (λ c rest. got (build a b c) rest)))

module _ {A : Type 0} (why last n k : ℕ) (build : ℕ → ℕ → ℕ → A) (bs : List ℕ) where
  pub first_not : {e : ℕ} → number why (under n) bs ≡ refuse e → ends_then why last n k build bs ≡ refuse e
  unfolding after
  first_not e = rw e

  module _ {a : ℕ} {r₁ : List ℕ} (ea : number why (under n) bs ≡ got a r₁) where
    pub second_not : {e : ℕ} → number why (under n) r₁ ≡ refuse e → ends_then why last n k build bs ≡ refuse e
    unfolding after
    second_not e = rw (ea, number_and why (under n) (λ x. not (eqb x a)) r₁, e)

    module _ {b : ℕ} {r₂ : List ℕ} (eb : number why (under n) r₁ ≡ got b r₂) where
      pub second_same : b ≡ a → ends_then why last n k build bs ≡ refuse why
      unfolding after judged
      second_same q = rw (ea, number_and why (under n) (λ x. not (eqb x a)) r₁, eb, eq-eqb _ _ q)

      module _ (q : b ≡ a → ⊥) where
        from_second : ends_then why last n k build bs ≡ after (number last (under (suc k)) r₂) (λ c rest. got (build a b c) rest)
        unfolding after judged
        from_second = rw (ea, number_and why (under n) (λ x. not (eqb x a)) r₁, eb, ne_eqb _ _ q, number_most last k r₂)

        pub third_not : {e : ℕ} → number last (under (suc k)) r₂ ≡ refuse e → ends_then why last n k build bs ≡ refuse e
        unfolding after
        third_not e = from_second ∙ rw e

        pub third_read : {c : ℕ} {r₃ : List ℕ} → number last (under (suc k)) r₂ ≡ got c r₃ → ends_then why last n k build bs ≡ got (build a b c) r₃
        unfolding after
        third_read e = from_second ∙ rw e
