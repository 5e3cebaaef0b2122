-- All rows once an item is opened: each holds the least lengths as it is, or can be mended. Assumes nothing.
use Prim.Native.Nat.{ℕ, ◌+◌, ◌<◌}
use mathlib.Core.Path.{◌≡◌, refl, sym, ap, ◌∙◌}
use mathlib.Core.Logic.{◌⊎◌, inl, inr}
use mathlib.Core.Bool.{true, true≢false, false}
use mathlib.Core.List.{List}
use native.Mathlib.Omega.{arith}
use native.Mathlib.Decide.{ℕ_discrete}
use lib.Bits.{bit_or}
use lib.ListN.{length, get_or, set}
use Rattle.walks.specs.declared.arc.Arc.{Arc}
use Rattle.walks.specs.Graph.{closed_in}
use Rattle.walks.proofs.OpenedLaws.{opens}
use Rattle.rows.specs.Bits.{bit_of, alone}
use Rattle.rows.specs.Held.{missing}
use Rattle.rows.specs.Net.{net_of, arc_count, tail_in, head_in, weight_in, Proper}
use Rattle.rows.specs.Rows.{row_at, RowIs, Tried, RowsAre, RowsSound, StartsOf}
use Rattle.rows.proofs.BitLaws.{bit_own, bit_other, added_own, added_kept, added_other}
use Rattle.rows.proofs.OpenLaws.{sound_opens}
use Rattle.rows.proofs.WorkLaws.{row_entry, rows_sound}
use Rattle.row_reopen.specs.Openings.{arc_at, Kept, RowsMendable, Entering, Opened}
use Rattle.row_reopen.proofs.ArcOpened.{proper_opened, row_kept, row_mendable, node_mendable}

module _ {n : ℕ} {xs : List Arc} {old : List ℕ} {i : ℕ} {marks : List ℕ} {ys : List Arc} {starts : List ℕ} (O : Opened n xs old i marks ys starts) where
  pub opened_proper : Proper (net_of n xs marks)
  opened_proper = rw O.opened (proper_opened n xs old i O.proper)

  pub opened_starts : StartsOf (net_of n xs marks) ys marks starts
  opened_starts = record { proper = opened_proper; marked = refl; packed = O.packed; nodes = O.nodes }

  pub opened_sound : (cap : ℕ) (work : List ℕ) → cap < missing → RowsAre (net_of n xs old) cap starts (length starts) work → RowsSound (net_of n xs marks) cap starts work
  opened_sound cap work small R j h =
      rw O.opened
      (sound_opens n xs old (set old i 0) cap (get_or starts j 0) _ (opens old i) (rows_sound (net_of n xs old) cap starts work O.proper.few small R j h))

  pub opened_mendable : i < n → (cap active : ℕ) (work : List ℕ) → cap < missing → Entering (arc_count ys) ys i active
      → RowsAre (net_of n xs old) cap starts (length starts) work → RowsMendable cap ys marks starts active work
  opened_mendable node cap active work small E R j h =
      rw O.opened
      (node_mendable n xs old i O.proper node cap (get_or starts j 0) (row_at work j) ys active small (O.nodes j h) (rw O.opened at O.packed) E
      (λ v hv. row_entry work j v (omega (arith, O.proper.few)) ∙ R j h v hv))

  -- the item is arc l
  module _ (l cap : ℕ) (work : List ℕ) (arc : i ≡ n + l) (small : cap < missing) (R : RowsAre (net_of n xs old) cap starts (length starts) work) where
    below : l < arc_count xs
    below = omega (arith, O.below)

    is_opened : marks ≡ set old (n + l) 0
    is_opened = O.opened ∙ ap (λ (k : ℕ). set old k 0) arc

    row_at_lem : (j : ℕ) → j < length starts → RowIs (net_of n xs old) cap (get_or starts j 0) (row_at work j)
    row_at_lem j h v hv = row_entry work j v (omega (arith, O.proper.few)) ∙ R j h v hv

    -- a row of which it cuts no entry
    still : (j : ℕ) → j < length starts → (closed_in marks (head_in xs l) ≡ false → Tried cap (row_at work j) (tail_in xs l) (head_in xs l) (weight_in xs l))
        → RowIs (net_of n xs marks) cap (get_or starts j 0) (row_at work j)
    still j h t =
        rw is_opened
        (row_kept n xs old l O.proper below cap (get_or starts j 0) (row_at work j) ys small (O.nodes j h) (rw is_opened at O.packed)
        (λ o. t (rw is_opened o)) (row_at_lem j h))

    pub arc_kept : Kept (net_of n xs marks) cap (arc_at xs l) starts work
    arc_kept j h _ t = still j h (λ _. t)

    -- its head is closed
    pub arc_shut : closed_in marks (head_in xs l) ≡ true → RowsAre (net_of n xs marks) cap starts (length starts) work
    arc_shut q j h v hv =
        sym (row_entry work j v (omega (arith, O.proper.few))) ∙ still j h (λ o. absurd (true≢false (sym q ∙ o))) v hv

    pub arc_mendable : (active : ℕ) → bit_of active (tail_in xs l) ≡ 1 → RowsMendable cap ys marks starts active work
    arc_mendable active o j h =
        rw is_opened
        (row_mendable n xs old l O.proper below cap (get_or starts j 0) (row_at work j) ys active small (O.nodes j h) (rw is_opened at O.packed) o
        (row_at_lem j h))

-- the nodes whose arcs enter a node
pub entering_begun : (ys : List Arc) (v : ℕ) → v < 64 → Entering 0 ys v (alone v)
entering_begun ys v h = record { own = bit_own v h; tails = λ j l. absurd (omega arith); only = λ x n f. bit_other v x h n }

pub entering_more : (i : ℕ) (ys : List Arc) (v a r : ℕ) → tail_in ys i < 64 → Entering i ys v a
    → ((head_in ys i ≡ v) × (r ≡ bit_or a (alone (tail_in ys i)))) ⊎ ((head_in ys i ≡ v → ⊥) × (r ≡ a)) → Entering (i + 1) ys v r
entering_more i ys v a r h E (inl w) = rw w.1 (record { own = added_kept a (tail_in ys i) v E.own; tails = λ j l. tails j (ℕ_discrete j i) l; only = only })
  where
    only : (x : ℕ) → (x ≡ v → ⊥) → ((j : ℕ) → j < i + 1 → head_in ys j ≡ v → tail_in ys j ≡ x → ⊥) → bit_of (bit_or a (alone (tail_in ys i))) x ≡ 0
    only x n f = added_other a (tail_in ys i) x h (λ q. f i (omega arith) w.0 (sym q)) ∙ E.only x n (λ j l e q. f j (omega arith) e q)

    tails : (j : ℕ) → Dec (j ≡ i) → j < i + 1 → head_in ys j ≡ v → bit_of (bit_or a (alone (tail_in ys i))) (tail_in ys j) ≡ 1
    tails j (yes q) l e = rw q (added_own a (tail_in ys i) h)
    tails j (no q) l e = added_kept a (tail_in ys i) (tail_in ys j) (E.tails j (omega arith) e)
entering_more i ys v a r h E (inr w) = rw w.1 (record { own = E.own; tails = λ j l. tails j (ℕ_discrete j i) l; only = λ x n f. E.only x n (λ j l e q. f j (omega arith) e q) })
  where
    tails : (j : ℕ) → Dec (j ≡ i) → j < i + 1 → head_in ys j ≡ v → bit_of a (tail_in ys j) ≡ 1
    tails j (yes q) l e = absurd (w.0 (rw q at e))
    tails j (no q) l e = E.tails j (omega arith) e
