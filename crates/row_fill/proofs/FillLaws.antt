-- A row that is filled with what stands for missing is sound, and no arc can cut an entry of it. Assumes nothing.
use Prim.Native.Nat.{ℕ, ◌≤◌, ◌<◌}
use mathlib.Core.Path.{◌≡◌}
use mathlib.Core.Logic.{inr}
use mathlib.Core.List.{List}
use native.Mathlib.Omega.{arith}
use lib.ListN.{get_or, get_or-replicate, replicate}
use Rattle.walks.specs.declared.arc.Arc.{Arc}
use Rattle.rows.specs.Bits.{alone}
use Rattle.rows.specs.Held.{missing}
use Rattle.rows.specs.Net.{Net, Proper, Joins, Packed}
use Rattle.rows.specs.Rows.{Sound, Away, RowIs, StartOf}
use Rattle.row_spread.specs.Active.{Mendable, Mended}
use Rattle.rows.proofs.BitLaws.{bit_own}

-- a row with no entry is sound
pub blank_sound : (N : Net) (cap s : ℕ) (d : List ℕ) → N.nodes ≤ 64 → cap < missing → ((v : ℕ) → v < 64 → get_or d v 0 ≡ missing) → Sound N cap s d
blank_sound N cap s d l c b = record { sound = λ v hv f. absurd (omega (arith, b v (omega arith))); range = λ v hv. inr (b v (omega arith)) }

-- no arc can cut it before its start is set
pub blank_mendable : (cap : ℕ) (xs : List Arc) (marks : List ℕ) (s : ℕ) (d : List ℕ) → Joins 64 xs → s < 64 → cap < missing
    → ((v : ℕ) → v < 64 → get_or d v 0 ≡ missing) → Mendable cap xs marks s (alone s) d
blank_mendable cap xs marks s d J hs c b = record {
  still = record { tried = λ j h z k. absurd (omega (arith, b _ (J j h).0)) };
  begun = λ z. absurd (omega (arith, bit_own s hs));
}

-- it is mended to least lengths
pub blank_mended : {cap : ℕ} {xs : List Arc} {marks : List ℕ} {s n : ℕ} {d : List ℕ} (e : List ℕ) → Joins 64 xs → s < 64 → cap < missing
    → n ≡ 64 → d ≡ replicate n missing → Mended cap xs marks s (alone s) d e → (N : Net) → StartOf N xs marks s → RowIs N cap s e
blank_mended {cap} {xs} {marks} {s} {n} {d} e j hs c q f M N S = M N S (blank_sound N cap s d S.proper.few c b) (blank_mendable cap xs marks s d j hs c b)
  where
    b : (v : ℕ) → v < 64 → get_or d v 0 ≡ missing
    b v h = rw f (get_or-replicate n v missing 0 (omega arith))

-- no arc enters what is no node
pub behind_away : {N : Net} {xs : List Arc} {s v : ℕ} → Proper N → Packed N xs → s < N.nodes → N.nodes ≤ v → Away xs s v
behind_away p P h l = record {
  start = λ e. absurd (omega arith);
  arcs = λ j k e. let o = P.only j k in absurd (omega (arith, o.3.head, p.heads o.0 o.1));
}
