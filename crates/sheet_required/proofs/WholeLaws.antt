-- Small laws of a sheet as the code has it, and of lists that are written to the front of an array. Assumes nothing.
use Prim.Native.Nat.{ℕ, zero, suc, ◌+◌, ◌≤◌, ◌<◌}
use mathlib.Core.Path.{◌≡◌, sym, ap, ◌∙◌}
use mathlib.Core.List.{List, [], ◌∷◌}
use native.Mathlib.Omega.{arith}
use lib.ListN.{length, get_or, take, drop}
use lib.Seq.{take_at, take_all}
use Rattle.lists.proofs.Pigeonhole.{Below}
use Rattle.lists.specs.Lists.{front, Put}
use Rattle.walks.specs.declared.arc.Arc.{Arc}
use Rattle.walks.specs.Flat.{graph_of}
use Rattle.walks.specs.Graph.{item_count}
use Rattle.sheet.specs.declared.Header.{Header}
use Rattle.sheet_required.specs.Whole.{Whole, RoomListed}

-- the items that the header counts
pub items_are : {h : Header} {arcs : List Arc} {marks : List ℕ} → Whole h arcs marks → item_count (graph_of h.nodes arcs) ≡ h.nodes + h.arcs
items_are W = omega (arith, W.sized.0)

-- an entry of a list of small numbers
pub goals_at : (n i : ℕ) (xs : List ℕ) → Below n xs → i < length xs → get_or xs i 0 < n
goals_at n i [] b l = absurd (omega arith)
goals_at n zero (x ∷ xs) b l = b.0
goals_at n (suc i) (x ∷ xs) b l = goals_at n i xs b.1 (omega arith)

-- what stands in front is found there
front_take : (xs d : List ℕ) (n : ℕ) → n ≡ length xs → take n (front xs d) ≡ xs
front_take xs d n e = take_at xs (drop (length xs) d) n (sym e)

pub listed_front : (xs out d : List ℕ) (n : ℕ) → Put xs d out n → take n out ≡ xs
listed_front xs out d n e = ap (take n) e.1 ∙ front_take xs d n e.0

-- where the list has room for all, they stand in front
pub room_exact : {xs old list : List ℕ} {n : ℕ} → RoomListed xs old list n → n ≤ length old → Put xs old list n
room_exact {xs} {old} w l =
    (w.counted, w.written ∙ ap (λ (ys : List ℕ). front ys old) (take_all (length old) xs (omega (arith, w.counted))))

pub room_front : {xs old list : List ℕ} {n : ℕ} → RoomListed xs old list n → length xs ≤ length old → take n list ≡ xs
room_front {xs} {old} {list} {n} w l = listed_front xs list old n (room_exact w (omega (arith, w.counted)))
