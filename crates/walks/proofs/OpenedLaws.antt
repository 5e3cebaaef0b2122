-- Marks with one item opened: it is open, and every other item is as it was. Assumes nothing.
use Prim.Native.Nat.{ℕ, ◌≤◌}
use mathlib.Core.Path.{◌≡◌, refl, sym, ap, ◌∙◌}
use mathlib.Core.Bool.{Bool, true, false, true≢false}
use mathlib.Core.List.{List}
use native.Mathlib.Omega.{arith}
use native.Mathlib.Decide.{ℕ_discrete}
use lib.ListN.{length, get_or, set, length-set, get_or-eq_default}
use lib.Seq.{get_or-set_same, get_or-set_other}
use lib.Dec.{eqb, ltb}
use borrow.Author.Tests.{ltb-true, ltb-false}
use Rattle.walks.specs.Graph.{closed_in}

pub open_same : (marks : List ℕ) (i : ℕ) → closed_in (set marks i 0) i ≡ false
open_same marks i = go (ltb i (length marks)) refl
  where
    go : (t : Bool) → ltb i (length marks) ≡ t → eqb (get_or (set marks i 0) i 0) 2 ≡ false
    go true q = rw (get_or-set_same marks i 0 0 (ltb-true i (length marks) q))
    go false q =
        let h : length (set marks i 0) ≤ i = omega (arith, length-set marks i 0, ltb-false i (length marks) q) in
        rw (get_or-eq_default (set marks i 0) 0 h)

pub open_other : (marks : List ℕ) (i j : ℕ) → (j ≡ i → ⊥) → closed_in (set marks i 0) j ≡ closed_in marks j
open_other marks i j n = rw (get_or-set_other marks i j 0 0 n)

-- an item that is still closed was closed, and is not the one opened
pub open_closed : (marks : List ℕ) (i j : ℕ) → closed_in (set marks i 0) j ≡ true → (closed_in marks j ≡ true) × (j ≡ i → ⊥)
open_closed marks i j e =
    let n : j ≡ i → ⊥ = λ p. true≢false (sym e ∙ ap (closed_in (set marks i 0)) p ∙ open_same marks i) in
    (sym (open_other marks i j n) ∙ e, n)

-- opening an item closes none
pub opens : (marks : List ℕ) (i j : ℕ) → closed_in marks j ≡ false → closed_in (set marks i 0) j ≡ false
opens marks i j o = go (ℕ_discrete j i)
  where
    go : Dec (j ≡ i) → closed_in (set marks i 0) j ≡ false
    go (yes q) = ap (closed_in (set marks i 0)) q ∙ open_same marks i
    go (no q) = open_other marks i j q ∙ o
