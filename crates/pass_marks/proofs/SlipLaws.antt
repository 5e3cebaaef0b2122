-- The slip of verdict 0 in the lent slice: the number 0, and behind it the marks. Assumes nothing.
use Prim.Native.Nat.{ℕ, ◌-◌, ◌≤◌}
use mathlib.Core.Path.{◌≡◌, refl}
use mathlib.Core.List.{List, [], ◌∷◌, ◌++◌}
use native.Mathlib.Omega.{arith}
use lib.ListN.{length, take, drop, set}
use Rattle.lists.proofs.FrontLaws.{push_at, part_front}
use Rattle.lists.specs.Lists.{front}

pub zero_front : (slip : List ℕ) → 1200 ≤ length slip → (vs ys : List ℕ) → ys ≡ front vs (take (length (set slip 0 0) - 1) (drop 1 (set slip 0 0)))
    → take 1 (set slip 0 0) ++ (ys ++ drop (length (set slip 0 0) - 1) (drop 1 (set slip 0 0))) ≡ front (0 ∷ vs) slip
zero_front slip l vs ys e = part_front (0 ∷ []) vs slip (set slip 0 0) 1 ys refl (push_at [] slip slip 0 0 refl refl (omega arith)) (omega arith) e
