-- Rows that lie one after the other in the work: one more is written, and what lies behind is as it was. Assumes nothing.
use Prim.Native.Nat.{ℕ, ◌+◌, ◌-◌, ◌*◌, ◌≤◌, ◌<◌}
use mathlib.Core.Path.{◌≡◌, sym, ap, ◌∙◌, subst}
use mathlib.Core.List.{List, ◌++◌, append_assoc}
use native.Mathlib.Omega.{arith}
use lib.ListN.{length, get_or, take, drop, length-append, get_or-append}
use lib.Seq.{length-take-le, get_or-append-add, get_or-take, get_or-drop, drop_at, drop-drop}
use borrow.Author.Count.{below_more}
use Rattle.walks.specs.declared.arc.Arc.{Arc}
use Rattle.rows.proofs.OpenLaws.{row_sound}
use Rattle.rows.specs.Held.{missing}
use Rattle.rows.specs.Net.{Net}
use Rattle.rows.specs.Rows.{RowIs, AwayMissing, Sound, row_at, RowsAre, RowsSound}

-- an entry of what is written, and one before it
pub part_in : (at v : ℕ) (xs ys zs : List ℕ) → at ≤ length xs → v < length ys → get_or (take at xs ++ (ys ++ zs)) (at + v) 0 ≡ get_or ys v 0
part_in at v xs ys zs h k =
    subst (λ (n : ℕ). get_or (take at xs ++ (ys ++ zs)) (n + v) 0 ≡ get_or ys v 0) (length-take-le at xs h)
    (get_or-append-add (take at xs) (ys ++ zs) v 0 ∙ get_or-append ys zs 0 v k)

pub part_before : (at j : ℕ) (xs zs : List ℕ) → at ≤ length xs → j < at → get_or (take at xs ++ zs) j 0 ≡ get_or xs j 0
part_before at j xs zs h k = get_or-append (take at xs) zs 0 j (rw (length-take-le at xs h) k) ∙ get_or-take at xs j 0 k

-- an entry of row i
pub row_entry : (work : List ℕ) (i v : ℕ) → v < 64 → get_or (row_at work i) v 0 ≡ get_or work (i * 64 + v) 0
row_entry work i v h = get_or-take 64 (drop (i * 64) work) v 0 h ∙ get_or-drop (i * 64) work v 0

-- row i is written behind those before it
module _ (i : ℕ) (work ys zs : List ℕ) (room : i * 64 + 64 ≤ length work) (long : length ys ≡ 64) where
  pub rows_more : (N : Net) (cap : ℕ) (starts : List ℕ) → N.nodes ≤ 64 → RowIs N cap (get_or starts i 0) ys → RowsAre N cap starts i work
      → RowsAre N cap starts (i + 1) (take (i * 64) work ++ (ys ++ zs))
  rows_more N cap starts few R B =
      below_more _ i (λ j hj v hv. part_before (i * 64) (j * 64 + v) work (ys ++ zs) (omega arith) (omega arith) ∙ B j hj v hv)
      (λ v hv. part_in (i * 64) v work ys zs (omega arith) (omega arith) ∙ R v hv)

  pub away_more : (xs : List Arc) (starts : List ℕ) → AwayMissing xs (get_or starts i 0) ys → ((j : ℕ) → j < i → AwayMissing xs (get_or starts j 0) (row_at work j))
      → (j : ℕ) → j < i + 1 → AwayMissing xs (get_or starts j 0) (row_at (take (i * 64) work ++ (ys ++ zs)) j)
  away_more xs starts R B =
      below_more _ i
      (λ j hj v hv a.
      row_entry (take (i * 64) work ++ (ys ++ zs)) j v hv ∙ part_before (i * 64) (j * 64 + v) work (ys ++ zs) (omega arith) (omega arith)
      ∙ sym (row_entry work j v hv) ∙ B j hj v hv a)
      (λ v hv a. row_entry (take (i * 64) work ++ (ys ++ zs)) i v hv ∙ part_in (i * 64) v work ys zs (omega arith) (omega arith) ∙ R v hv a)

  pub rest_more : (work₀ : List ℕ) → zs ≡ drop 64 (drop (i * 64) work) → drop (i * 64) work ≡ drop (i * 64) work₀
      → drop ((i + 1) * 64) (take (i * 64) work ++ (ys ++ zs)) ≡ drop ((i + 1) * 64) work₀
  rest_more work₀ z e =
      let q : i * 64 + 64 ≡ (i + 1) * 64 = omega arith in
      ap (drop ((i + 1) * 64)) (sym (append_assoc (take (i * 64) work) ys zs))
      ∙ drop_at (take (i * 64) work ++ ys) zs ((i + 1) * 64) (length-append (take (i * 64) work) ys ∙ omega (arith, length-take-le (i * 64) work (omega arith)))
      ∙ z ∙ ap (drop 64) e ∙ drop-drop 64 (i * 64) work₀ ∙ ap (λ (n : ℕ). drop n work₀) q

-- row i, where the work from there on is as it was
pub row_begun : (N : Net) (cap s i k : ℕ) (work work₀ : List ℕ) → k ≡ 64 → drop (i * 64) work ≡ drop (i * 64) work₀ → Sound N cap s (row_at work₀ i)
    → Sound N cap s (take k (drop (i * 64) work))
row_begun N cap s i k work work₀ q e S = rw (q, e) S

-- rows that hold least lengths are sound
pub rows_sound : (N : Net) (cap : ℕ) (starts work : List ℕ) → N.nodes ≤ 64 → cap < missing → RowsAre N cap starts (length starts) work → RowsSound N cap starts work
rows_sound N cap starts work few c R i h = row_sound N cap (get_or starts i 0) (row_at work i) c (λ v hv. row_entry work i v (omega arith) ∙ R i h v hv)

-- rows in another list that has the same numbers there
pub rows_same : (N : Net) (cap : ℕ) (starts : List ℕ) (n : ℕ) (work after : List ℕ) → N.nodes ≤ 64
    → ((j : ℕ) → j < n * 64 → get_or after j 0 ≡ get_or work j 0) → RowsAre N cap starts n work → RowsAre N cap starts n after
rows_same N cap starts n work after few e R i h v hv = e (i * 64 + v) (omega arith) ∙ R i h v hv

-- what lies behind the first n numbers
pub behind : (n : ℕ) (xs ys : List ℕ) → drop n xs ≡ drop n ys → (j : ℕ) → n ≤ j → get_or xs j 0 ≡ get_or ys j 0
behind n xs ys e j h =
    let q : n + (j - n) ≡ j = omega arith in
    ap (λ (k : ℕ). get_or xs k 0) (sym q) ∙ sym (get_or-drop n xs (j - n) 0) ∙ ap (λ (l : List ℕ). get_or l (j - n) 0) e ∙ get_or-drop n ys (j - n) 0
    ∙ ap (λ (k : ℕ). get_or ys k 0) q
