-- The items newly forbidden among the first ones, and what one item more adds to them. Assumes nothing.
use Rattle.std.proofs.Common.{◌≡◌, refl, ap, ◌∙◌, ℕ, zero, suc, ◌+◌, Bool, true, false, ◌&&◌, List, [], ◌∷◌, ◌++◌, length, arith}
use Rattle.std.specs.Prelude.{get_or, eqb}
use mathlib.Core.List.{append-nil}
use borrow.Author.Tests.{eq-eqb, ne_eqb}
use Rattle.lists.proofs.TestLaws.{true_and}
use Rattle.lists.specs.Lists.{add, keep, span}
use Rattle.pass_rules.specs.Pass.{mark_in}
use Rattle.text_answer.specs.Text.{newly_forbidden}

keep_behind : (f : ℕ → Bool) (k a : ℕ) → keep f (span (suc k) a) ≡ keep f (span k a) ++ add (f (a + k)) (a + k) []
unfolding keep span add
keep_behind f zero a = let e : a + 0 ≡ a = omega arith in rw e refl
keep_behind f (suc k) a = go (f a) (keep_behind f k (suc a))
  where
    go : (t : Bool) → keep f (span (suc k) (suc a)) ≡ keep f (span k (suc a)) ++ add (f (suc a + k)) (suc a + k) []
        → add t a (keep f (span (suc k) (suc a))) ≡ add t a (keep f (span k (suc a))) ++ add (f (a + suc k)) (a + suc k) []
    go true h = let e : suc a + k ≡ a + suc k = omega arith in ap (λ xs. a ∷ xs) (rw e at h)
    go false h = let e : suc a + k ≡ a + suc k = omega arith in rw e at h

-- those among the first k items
unfoldable pub newly_among : List ℕ → List ℕ → ℕ → List ℕ
newly_among marks slip k = keep (λ i. eqb (get_or marks i 0) 0 && eqb (mark_in slip i) 2) (span k 0)

module _ (marks slip : List ℕ) where
  pub newly_none : newly_among marks slip 0 ≡ []
  unfolding newly_among keep span
  newly_none = refl

  newly_more : (i : ℕ) → newly_among marks slip (i + 1) ≡ newly_among marks slip i ++ add (eqb (get_or marks i 0) 0 && eqb (get_or slip (i + 1) 0) 2) i []
  unfolding newly_among
  newly_more i =
      let e : i + 1 ≡ suc i = omega arith in
      let z : 0 + i ≡ i = omega arith in
      let more = keep_behind (λ j. eqb (get_or marks j 0) 0 && eqb (mark_in slip j) 2) i 0 in
      rw e (rw z at more)

  pub newly_taken : (i : ℕ) → get_or marks i 0 ≡ 0 → get_or slip (i + 1) 0 ≡ 2 → newly_among marks slip (i + 1) ≡ newly_among marks slip i ++ (i ∷ [])
  unfolding add
  newly_taken i b a = newly_more i ∙ ap (λ t. newly_among marks slip i ++ add t i []) (true_and (eq-eqb (get_or marks i 0) 0 b) (eq-eqb (get_or slip (i + 1) 0) 2 a))

  pub newly_open : (i : ℕ) → (get_or slip (i + 1) 0 ≡ 2 → ⊥) → newly_among marks slip (i + 1) ≡ newly_among marks slip i
  unfolding add
  newly_open i a = newly_more i ∙ ap (λ t. newly_among marks slip i ++ add (eqb (get_or marks i 0) 0 && t) i []) (ne_eqb (get_or slip (i + 1) 0) 2 a) ∙ go (eqb (get_or marks i 0) 0)
    where
      go : (t : Bool) → newly_among marks slip i ++ add (t && false) i [] ≡ newly_among marks slip i
      go true = append-nil _
      go false = append-nil _

  pub newly_marked : (i : ℕ) → (get_or marks i 0 ≡ 0 → ⊥) → newly_among marks slip (i + 1) ≡ newly_among marks slip i
  unfolding add
  newly_marked i b = newly_more i ∙ ap (λ t. newly_among marks slip i ++ add (t && eqb (get_or slip (i + 1) 0) 2) i []) (ne_eqb (get_or marks i 0) 0 b) ∙ append-nil _

  pub newly_all : (k : ℕ) → k ≡ length marks → newly_among marks slip k ≡ newly_forbidden marks slip
  unfolding newly_among newly_forbidden
  newly_all k e = ap (newly_among marks slip) e

pub ruleset listing = (newly_none, newly_taken, newly_open, newly_marked)
