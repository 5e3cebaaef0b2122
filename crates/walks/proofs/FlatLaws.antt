-- Arcs in one list of numbers and back. Assumes nothing.
use Prim.Native.Nat.{ℕ, zero, suc, ◌+◌, ◌-◌, ◌*◌, ◌/◌, ◌<◌}
use mathlib.Core.Path.{◌≡◌, refl, ap}
use mathlib.Core.List.{List, [], ◌∷◌, ◌++◌}
use native.Mathlib.Omega.{arith}
use lib.ListN.{length, get_or}
use Rattle.walks.specs.Flat.{arcs_of, flat}
use Rattle.walks.specs.declared.arc.Arc.{Arc}
use Rattle.walks.specs.Graph.{no_arc}

pub arcs_flat : (xs : List Arc) → arcs_of (flat xs) ≡ xs
unfolding arcs_of flat
arcs_flat [] = refl
arcs_flat (x ∷ xs) = ap (λ (ys : List Arc). x ∷ ys) (arcs_flat xs)

pub flat_arcs : (xs : List ℕ) (m : ℕ) → length xs ≡ 3 * m → flat (arcs_of xs) ≡ xs
unfolding arcs_of flat
flat_arcs [] m e = refl
flat_arcs (t ∷ []) m e = absurd (omega arith)
flat_arcs (t ∷ h ∷ []) m e = absurd (omega arith)
flat_arcs (t ∷ h ∷ w ∷ xs) m e = ap (λ (ys : List ℕ). t ∷ h ∷ w ∷ ys) (flat_arcs xs (m - 1) (omega arith))

pub length_flat : (xs : List Arc) → length (flat xs) ≡ 3 * length xs
unfolding flat
length_flat [] = refl
length_flat (x ∷ xs) = omega (arith, length_flat xs)

pub flat_append : (xs ys : List Arc) → flat (xs ++ ys) ≡ flat xs ++ flat ys
unfolding flat
flat_append [] ys = refl
flat_append (x ∷ xs) ys = ap (λ (zs : List ℕ). x.tail ∷ x.head ∷ x.weight ∷ zs) (flat_append xs ys)

-- as many arcs as there are threes, and arc i stands at three times its number
pub arcs_count : (xs : List ℕ) → length (arcs_of xs) ≡ length xs / 3
unfolding arcs_of
arcs_count [] = refl
arcs_count (t ∷ []) = refl
arcs_count (t ∷ h ∷ []) = refl
arcs_count (t ∷ h ∷ w ∷ xs) = omega (arith, arcs_count xs)

pub arc_at : (xs : List ℕ) (i : ℕ) → i < length xs / 3
    → get_or (arcs_of xs) i no_arc ≡ record { tail = get_or xs (i * 3) 0; head = get_or xs (i * 3 + 1) 0; weight = get_or xs (i * 3 + 2) 0 }
unfolding arcs_of
arc_at [] i q = absurd (omega arith)
arc_at (t ∷ []) i q = absurd (omega arith)
arc_at (t ∷ h ∷ []) i q = absurd (omega arith)
arc_at (t ∷ h ∷ w ∷ xs) zero q = refl
arc_at (t ∷ h ∷ w ∷ xs) (suc i) q =
    let p : suc i * 3 ≡ suc (suc (suc (i * 3))) = omega arith in
    let p₁ : suc i * 3 + 1 ≡ suc (suc (suc (i * 3 + 1))) = omega arith in
    let p₂ : suc i * 3 + 2 ≡ suc (suc (suc (i * 3 + 2))) = omega arith in
    rw (p₁, p₂, p) (arc_at xs i (omega arith))

pub arcs_many : (xs : List ℕ) (m : ℕ) → length xs ≡ 3 * m → length (arcs_of xs) ≡ m
arcs_many xs m q = let e = arcs_count xs in omega (arith, e)
