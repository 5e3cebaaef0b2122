-- Arcs chained by an end of theirs: from a node's number on exactly the arcs with their end there are met. Assumes nothing.
use Prim.Native.Nat.{ℕ, zero, suc, ◌+◌, ◌≤◌, ◌<◌}
use mathlib.Core.Path.{◌≡◌, refl, sym, ap, ◌∙◌}
use mathlib.Core.List.{List, ◌++◌}
use native.Mathlib.Omega.{arith}
use native.Mathlib.Decide.{ℕ_discrete}
use borrow.Author.Tests.{eq-eqb, ne_eqb}
use lib.Dec.{eqb}
use lib.ListN.{length, get_or, set, drop, replicate, length-set, length-append, length-replicate, get_or-append, get_or-replicate}
use lib.Seq.{get_or-set_same, get_or-set_other, drop-set-lt}
use Rattle.lists.proofs.FrontLaws.{drop_further}
use Rattle.row_spread.specs.Arcs.{whether, last_at, ChainedBy}

module _ (end : ℕ → ℕ) (u : ℕ) where
  -- the arc put last has its end there, or another
  pub last_here : (i : ℕ) → end i ≡ u → last_at end u (suc i) ≡ suc i
  unfolding last_at whether
  last_here i q = rw (eq-eqb (end i) u q) refl

  pub last_there : (i : ℕ) → (end i ≡ u → ⊥) → last_at end u (suc i) ≡ last_at end u i
  unfolding last_at whether
  last_there i q = rw (ne_eqb (end i) u q) refl

  pub last_small : (n : ℕ) → last_at end u n ≤ n
  unfolding last_at
  last_small zero = omega arith
  last_small (suc i) = go (ℕ_discrete (end i) u) (last_small i)
    where
      go : Dec (end i ≡ u) → last_at end u i ≤ i → last_at end u (suc i) ≤ suc i
      go (yes q) l = omega (arith, last_here i q)
      go (no q) l = omega (arith, last_there i q)

  -- it has its end there
  pub last_at_lem : (n k : ℕ) → last_at end u n ≡ suc k → end k ≡ u
  unfolding last_at
  last_at_lem zero k e = absurd (omega arith)
  last_at_lem (suc i) k e = go (ℕ_discrete (end i) u) (last_at_lem i k)
    where
      go : Dec (end i ≡ u) → (last_at end u i ≡ suc k → end k ≡ u) → end k ≡ u
      go (yes q) f = let z : k ≡ i = omega (arith, e, last_here i q) in ap end z ∙ q
      go (no q) f = f (sym (last_there i q) ∙ e)

  -- and none after it has
  pub last_none : (n j : ℕ) → j < n → last_at end u n ≤ j → end j ≡ u → ⊥
  last_none zero j h l q = absurd (omega arith)
  last_none (suc i) j h l q = go (ℕ_discrete (end i) u) (ℕ_discrete j i) (λ k m. last_none i j k m q)
    where
      go : Dec (end i ≡ u) → Dec (j ≡ i) → (j < i → last_at end u i ≤ j → ⊥) → ⊥
      go (yes p) d f = absurd (omega (arith, last_here i p))
      go (no p) (yes d) f = p (ap end (sym d) ∙ q)
      go (no p) (no d) f = f (omega arith) (omega (arith, last_there i p))

module _ (end : ℕ → ℕ) where
  -- no arc is chained yet: the first 64 numbers are cleared
  pub chain_begun : (zs rest : List ℕ) → zs ≡ replicate 64 0 → length rest ≡ 512 → ChainedBy end 0 (zs ++ rest)
  unfolding last_at
  chain_begun zs rest z long = record {
    few = omega arith;
    long = length-append zs rest ∙ omega (arith, size);
    lasts = λ u h. get_or-append zs rest 0 u (omega (arith, size)) ∙ ap (λ (l : List ℕ). get_or l u 0) z ∙ get_or-replicate {A = ℕ} 64 u 0 0 h;
    befores = λ i h. absurd (omega arith);
  }
    where
      size : length zs ≡ 64
      size = ap length z ∙ length-replicate {A = ℕ} 64 0

  -- arc i is put before those that have the same end
  pub chain_more : {i : ℕ} {chains : List ℕ} → end i < 64 → i < 512 → ChainedBy end i chains
      → ChainedBy end (i + 1) (set (set chains (64 + i) (get_or chains (end i) 0)) (end i) (i + 1))
  chain_more {i} {chains} ht hi C = record {
    few = omega arith;
    long = length-set more (end i) (i + 1) ∙ length-set chains (64 + i) (get_or chains (end i) 0) ∙ C.long;
    lasts = λ u h. last u (ℕ_discrete u (end i)) h;
    befores = λ k h. before k (ℕ_discrete k i) h;
  }
    where
      more : List ℕ
      more = set chains (64 + i) (get_or chains (end i) 0)

      long : length more ≡ 576
      long = length-set chains (64 + i) (get_or chains (end i) 0) ∙ C.long

      next : i + 1 ≡ suc i
      next = omega arith

      last : (u : ℕ) → Dec (u ≡ end i) → u < 64 → get_or (set more (end i) (i + 1)) u 0 ≡ last_at end u (i + 1)
      last u (yes q) h =
          rw q (get_or-set_same more (end i) (i + 1) 0 (omega (arith, long)) ∙ next ∙ sym (last_here end (end i) i refl)
          ∙ ap (last_at end (end i)) (sym next))
      last u (no q) h =
          get_or-set_other more (end i) u (i + 1) 0 q ∙ get_or-set_other chains (64 + i) u (get_or chains (end i) 0) 0 (λ e. omega arith) ∙ C.lasts u h
          ∙ sym (last_there end u i (λ e. q (sym e))) ∙ ap (last_at end u) (sym next)

      before : (k : ℕ) → Dec (k ≡ i) → k < i + 1 → get_or (set more (end i) (i + 1)) (64 + k) 0 ≡ last_at end (end k) k
      before k (yes q) h =
          rw q
          (get_or-set_other more (end i) (64 + i) (i + 1) 0 (λ e. omega arith) ∙ get_or-set_same chains (64 + i) (get_or chains (end i) 0) 0 (omega (arith, C.long))
          ∙ C.lasts (end i) ht)
      before k (no q) h =
          get_or-set_other more (end i) (64 + k) (i + 1) 0 (λ e. omega arith)
          ∙ get_or-set_other chains (64 + i) (64 + k) (get_or chains (end i) 0) 0 (λ e. omega arith) ∙ C.befores k (omega arith)

  -- what is behind is as it was
  pub chain_behind : (i : ℕ) (chains d : List ℕ) → end i < 64 → drop (64 + i) chains ≡ drop (64 + i) d
      → drop (64 + (i + 1)) (set (set chains (64 + i) (get_or chains (end i) 0)) (end i) (i + 1)) ≡ drop (64 + (i + 1)) d
  chain_behind i chains d ht e =
      drop-set-lt (64 + (i + 1)) (set chains (64 + i) (get_or chains (end i) 0)) (end i) (i + 1) (omega arith)
      ∙ drop-set-lt (64 + (i + 1)) chains (64 + i) _ (omega arith) ∙ drop_further (64 + i) (64 + (i + 1)) chains d (omega arith) e

  -- the laws of the numbers of a chain
  module _ {m : ℕ} {chains : List ℕ} (C : ChainedBy end m chains) where
    pub chain_small : (u : ℕ) → u < 64 → get_or chains u 0 ≤ m
    chain_small u h = omega (arith, C.lasts u h, last_small end u m)

    pub chain_falls : (i : ℕ) → i < m → get_or chains (64 + i) 0 ≤ i
    chain_falls i h = omega (arith, C.befores i h, last_small end (end i) i)

  -- the last arc taken off again
  pub chain_less : {i : ℕ} {chains : List ℕ} → end i < 64 → ChainedBy end (i + 1) chains → ChainedBy end i (set chains (end i) (get_or chains (64 + i) 0))
  chain_less {i} {chains} ht C = record {
    few = omega (arith, C.few);
    long = length-set chains (end i) (get_or chains (64 + i) 0) ∙ C.long;
    lasts = λ u h. last u (ℕ_discrete u (end i)) h;
    befores = λ k h. get_or-set_other chains (end i) (64 + k) (get_or chains (64 + i) 0) 0 (λ e. omega arith) ∙ C.befores k (omega arith);
  }
    where
      next : i + 1 ≡ suc i
      next = omega arith

      last : (u : ℕ) → Dec (u ≡ end i) → u < 64 → get_or (set chains (end i) (get_or chains (64 + i) 0)) u 0 ≡ last_at end u i
      last u (yes q) h = rw q (get_or-set_same chains (end i) (get_or chains (64 + i) 0) 0 (omega (arith, C.long)) ∙ C.befores i (omega arith))
      last u (no q) h =
          get_or-set_other chains (end i) u (get_or chains (64 + i) 0) 0 q ∙ C.lasts u h ∙ ap (last_at end u) next ∙ last_there end u i (λ e. q (sym e))

-- only the ends of the arcs that are chained matter
pub last_same : (end end' : ℕ → ℕ) (u n : ℕ) → ((k : ℕ) → k < n → end k ≡ end' k) → last_at end u n ≡ last_at end' u n
unfolding last_at
last_same end end' u zero s = refl
last_same end end' u (suc n) s =
    let e = last_same end end' u n (λ k h. s k (omega arith)) in
    ap (λ (x : ℕ). whether (eqb x u) (suc n) (last_at end u n)) (s n (omega arith)) ∙ ap (whether (eqb (end' n) u) (suc n)) e

pub chain_same : (end end' : ℕ → ℕ) {m : ℕ} {chains : List ℕ} → ((k : ℕ) → k < m → end k ≡ end' k) → ChainedBy end m chains → ChainedBy end' m chains
chain_same end end' {m} {chains} s C = record {
  few = C.few;
  long = C.long;
  lasts = λ u h. C.lasts u h ∙ last_same end end' u m s;
  befores = λ i h. C.befores i h ∙ ap (λ (x : ℕ). last_at end x i) (s i h) ∙ last_same end end' (end' i) i (λ k l. s k (omega arith));
}
