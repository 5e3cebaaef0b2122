-- What the code answers once an item is opened: a node, an arc to a closed node, and any other arc. Assumes nothing.
use Prim.Native.Nat.{ℕ, ◌+◌, ◌-◌, ◌≤◌, ◌<◌}
use mathlib.Core.Path.{◌≡◌, refl, sym, ◌∙◌}
use mathlib.Core.Bool.{true, false, true≢false, false≢true}
use mathlib.Core.List.{List}
use native.Mathlib.Omega.{arith}
use borrow.Author.Tests.{lt-ltb, le-ltb}
use lib.ListN.{length}
use Rattle.walks.specs.declared.arc.Arc.{Arc}
use Rattle.walks.specs.Graph.{closed_in}
use Rattle.rows.specs.Bits.{bit_of}
use Rattle.rows.specs.Held.{missing}
use Rattle.rows.specs.Net.{net_of, arc_count, tail_in, head_in}
use Rattle.row_reopen.specs.Openings.{change_of, arc_at, Saves, Spared, RowsAway, RowsMended, Entering, ItemOpened}
use Rattle.row_reopen.proofs.RowsOpened.{opened_starts, opened_sound, opened_mendable, arc_kept, arc_shut, arc_mendable}
use Rattle.row_reopen.proofs.SavesLaws.{saves_shut}

module _ (n : ℕ) (xs : List Arc) (i cap : ℕ) (marks : List ℕ) (ys : List Arc) (starts work after : List ℕ) (kept active : ℕ) (small : cap < missing) where
  pub item_node : i < n → Entering (arc_count ys) ys i active → Saves (length starts) cap (change_of true 0 0 0) work after kept
      → RowsMended cap ys marks starts active (change_of true 0 0 0) work after → RowsAway (length starts) ys starts work after
      → Spared (length starts) cap (change_of true 0 0 0) work kept → ItemOpened n xs i cap marks ys starts work after kept
  item_node h E S M A P = record {
    rows = λ old O R.
        M (net_of n xs marks) (opened_starts O) (opened_sound O cap work small R) (opened_mendable O h cap active work small E R) (λ j l q. absurd (true≢false q));
    saves = rw (lt-ltb i n h) (record {
      same = S.same;
      copies = S.copies;
      unkept = S.unkept;
      beside = S.beside;
      none = S.none;
      cuts = λ j l b q. absurd (true≢false q);
      nodes = S.nodes;
    });
    away = A;
    spared = λ _ j l b. absurd (true≢false (P j l b).0);
    shut = λ l. absurd (omega arith);
  }

  module _ (arc : n ≤ i) where
    at : i ≡ n + (i - n)
    at = omega arith

    pub item_arc : closed_in marks (head_in xs (i - n)) ≡ false → bit_of active (tail_in xs (i - n)) ≡ 1
        → Saves (length starts) cap (arc_at xs (i - n)) work after kept
        → RowsMended cap ys marks starts active (arc_at xs (i - n)) work after → RowsAway (length starts) ys starts work after
        → Spared (length starts) cap (arc_at xs (i - n)) work kept → ItemOpened n xs i cap marks ys starts work after kept
    item_arc o b S M A P = record {
      rows = λ old O R.
          M (net_of n xs marks) (opened_starts O) (opened_sound O cap work small R) (arc_mendable O (i - n) cap work at small R active b)
          (arc_kept O (i - n) cap work at small R);
      saves = rw (le-ltb i n arc) S;
      away = A;
      spared = λ _. rw (le-ltb i n arc) P;
      shut = λ _ q. absurd (true≢false (sym q ∙ o));
    }

pub item_shut : (n : ℕ) (xs : List Arc) (i cap : ℕ) (marks : List ℕ) (ys : List Arc) (starts work : List ℕ) → cap < missing → n ≤ i
    → closed_in marks (head_in xs (i - n)) ≡ true → ItemOpened n xs i cap marks ys starts work work 0
item_shut n xs i cap marks ys starts work small arc q = record {
  rows = λ old O R. arc_shut O (i - n) cap work (omega arith) small R q;
  saves = rw (le-ltb i n arc) (saves_shut cap (arc_at xs (i - n)) work (length starts) (λ e. absurd (false≢true e)));
  away = λ j h v l a. refl;
  spared = λ o. absurd (true≢false (sym q ∙ o arc));
  shut = λ _ _. refl;
}
