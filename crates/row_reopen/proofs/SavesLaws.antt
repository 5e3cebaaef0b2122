-- Rows that are gone through one after the other, those that are mended kept before. Assumes nothing.
use Prim.Native.Nat.{ℕ, ◌+◌, ◌-◌, ◌*◌, ◌/◌, ◌^◌, ◌≤◌, ◌<◌}
use mathlib.Core.Path.{◌≡◌, refl, sym, ap, ◌∙◌}
use mathlib.Core.Logic.{◌⊎◌, inl, inr}
use mathlib.Core.Bool.{true, false, true≢false}
use mathlib.Core.List.{List, [], ◌++◌}
use native.Mathlib.Omega.{arith}
use native.Mathlib.Decide.{ℕ_discrete, dec_lt}
use native.Mathlib.Nat.{zero-div}
use lib.Bits.{bit_or}
use lib.ListN.{length, get_or, take, drop, length-drop, length-append}
use lib.Seq.{ext_get_or, length-take-le, get_or-append-add, get_or-drop}
use Rattle.rows.specs.Bits.{bit_of, alone}
use Rattle.walks.specs.declared.arc.Arc.{Arc}
use Rattle.walks.specs.Graph.{least}
use Rattle.rows.specs.Held.{held}
use Rattle.rows.specs.Net.{Net, graph, closed}
use Rattle.rows.specs.Rows.{RowIs, AwaySame, row_at, RowsAre}
use Rattle.rows.proofs.BitLaws.{added_own, added_other}
use Rattle.rows.proofs.WorkLaws.{part_in, part_before, row_entry}
use Rattle.row_save.specs.Kept.{RowPut}
use Rattle.row_reopen.specs.Openings.{Change, Idle, KeptRow, Mends, left, mended, Saves, Spared, RowsAway}

-- a row whose numbers are as they were
pub row_same : (i : ℕ) (work after : List ℕ) → i < 9 → length work ≡ 3648 → length after ≡ 3648
    → ((x : ℕ) → x < 64 → get_or after (i * 64 + x) 0 ≡ get_or work (i * 64 + x) 0) → row_at after i ≡ row_at work i
row_same i work after h l m e = ext_get_or 0 _ _ (long after m ∙ sym (long work l)) (λ x k. at x (omega (arith, long after m)))
  where
    long : (xs : List ℕ) → length xs ≡ 3648 → length (row_at xs i) ≡ 64
    long xs q = length-take-le 64 (drop (i * 64) xs) (omega (arith, length-drop (i * 64) xs))

    at : (x : ℕ) → x < 64 → get_or (row_at after i) x 0 ≡ get_or (row_at work i) x 0
    at x k = row_entry after i x k ∙ e x k ∙ sym (row_entry work i x k)

module _ (cap : ℕ) (C : Change) (work : List ℕ) where
  -- nothing is kept where no row is looked at, or where none is cut
  saves_none : (n : ℕ) → (C.node ≡ true → n ≡ 0) → Saves n cap C work work 0
  saves_none n e = record {
    same = λ i h b x k. refl;
    copies = λ i h b. absurd (bit i b);
    unkept = λ i b x k. refl;
    beside = λ j h k. refl;
    none = λ i h. off i;
    cuts = λ i h b. absurd (bit i b);
    nodes = λ q i h. absurd (omega (arith, e q));
  }
    where
      off : (i : ℕ) → bit_of 0 i ≡ 0
      off i = let z : 0 / 2 ^ i ≡ 0 = zero-div (2 ^ i) in omega (arith, z)

      bit : (i : ℕ) → bit_of 0 i ≡ 1 → ⊥
      bit i b = omega (arith, b, off i)

  pub saves_shut : (n : ℕ) → (C.node ≡ true → ⊥) → Saves n cap C work work 0
  saves_shut n e = saves_none n (λ q. absurd (e q))

  -- one row more
  module _ {n : ℕ} {mid : List ℕ} {kept : ℕ} (few : n < 9) (long : length work ≡ 3648) (long' : length mid ≡ 3648) (S : Saves n cap C work mid kept) where
    pub row_begun : row_at mid n ≡ row_at work n
    row_begun = row_same n work mid few long long' (λ x h. S.beside (n * 64 + x) (omega arith) (omega arith))

    module _ (t : C.node ≡ true → ⊥) where
      saves_left : Saves (n + 1) cap C work mid kept
      saves_left = record {
        same = λ i h b x k. elim (dec_lt i n) [
          | yes l ↦ S.same i l b x k
          | no l ↦ S.beside (i * 64 + x) (omega arith) (omega arith)
        ];
        copies = λ i h b x k. S.copies i (low i h b) b x k;
        unkept = S.unkept;
        beside = λ j h k. S.beside j (omega arith) k;
        none = λ i h. S.none i (omega arith);
        cuts = λ i h b. S.cuts i (low i h b) b;
        nodes = λ q. absurd (t q);
      }
        where
          low : (i : ℕ) → i < n + 1 → bit_of kept i ≡ 1 → i < n
          low i h b = elim (dec_lt i n) [ yes l ↦ l | no l ↦ absurd (omega (arith, b, S.none i (omega arith))) ]

    module _ (after : List ℕ) (t : C.node ≡ false → Idle cap C (row_at work n) → ⊥) (K : KeptRow n mid after) where
      abbrev more : ℕ
      more = bit_or kept (alone n)

      bit : (i : ℕ) → (i ≡ n → ⊥) → bit_of more i ≡ bit_of kept i
      bit i q = added_other kept n i (omega arith) q

      own : bit_of more n ≡ 1
      own = added_own kept n (omega arith)

      row : (i : ℕ) → (i ≡ n → ⊥) → (x : ℕ) → x < 64 → i < 9 → get_or after (i * 64 + x) 0 ≡ get_or mid (i * 64 + x) 0
      row i q x k h = K.other (i * 64 + x) (away i n q x k) (inl (omega arith))
        where
          away : (i n : ℕ) → (i ≡ n → ⊥) → (x : ℕ) → x < 64 → (i * 64 + x < n * 64) ⊎ (n * 64 + 64 ≤ i * 64 + x)
          away i n q x k = elim (dec_lt i n) [ yes l ↦ inl (omega arith) | no l ↦ inr (omega arith) ]

      copy : (i : ℕ) → (i ≡ n → ⊥) → (x : ℕ) → x < 64 → get_or after (3072 + i * 64 + x) 0 ≡ get_or mid (3072 + i * 64 + x) 0
      copy i q x k = K.other (3072 + i * 64 + x) (inr (omega arith)) (away i n q x k)
        where
          away : (i n : ℕ) → (i ≡ n → ⊥) → (x : ℕ) → x < 64 → (3072 + i * 64 + x < 3072 + n * 64) ⊎ (3072 + n * 64 + 64 ≤ 3072 + i * 64 + x)
          away i n q x k = elim (dec_lt i n) [ yes l ↦ inl (omega arith) | no l ↦ inr (omega arith) ]

      saves_mended : Saves (n + 1) cap C work after more
      saves_mended = record {
        same = λ i h b x k. let q = other i b in row i q x k (omega arith) ∙ S.same i (less i h q) (sym (bit i q) ∙ b) x k;
        copies = λ i h b x k. copies i h b x k (ℕ_discrete i n);
        unkept = λ i b x k. let q = other i b in copy i q x k ∙ S.unkept i (sym (bit i q) ∙ b) x k;
        beside = λ j h k. K.other j (inr (omega arith)) (inl (omega arith)) ∙ S.beside j (omega arith) k;
        none = λ i h. let q = past i h in bit i q ∙ S.none i (omega arith);
        cuts = λ i h b. cuts i h b (ℕ_discrete i n);
        nodes = λ e i h. nodes e i h (ℕ_discrete i n);
      }
        where
          other : (i : ℕ) → bit_of more i ≡ 0 → i ≡ n → ⊥
          other i b q = omega (arith, b, own, ap (bit_of more) q)

          less : (i : ℕ) → i < n + 1 → (i ≡ n → ⊥) → i < n
          less i h q = elim (dec_lt i n) [ yes l ↦ l | no l ↦ absurd (q (omega arith)) ]

          past : (i : ℕ) → n + 1 ≤ i → i ≡ n → ⊥
          past i h q = omega arith

          copies : (i : ℕ) → i < n + 1 → bit_of more i ≡ 1 → (x : ℕ) → x < 64 → Dec (i ≡ n) → get_or after (3072 + i * 64 + x) 0 ≡ get_or work (i * 64 + x) 0
          copies i h b x k (yes q) = rw q (K.kept x k ∙ S.beside (n * 64 + x) (omega arith) (omega arith))
          copies i h b x k (no q) = copy i q x k ∙ S.copies i (less i h q) (sym (bit i q) ∙ b) x k

          cuts : (i : ℕ) → i < n + 1 → bit_of more i ≡ 1 → Dec (i ≡ n) → C.node ≡ false → Idle cap C (row_at work i) → ⊥
          cuts i h b (yes q) = rw q t
          cuts i h b (no q) = S.cuts i (less i h q) (sym (bit i q) ∙ b)

          nodes : C.node ≡ true → (i : ℕ) → i < n + 1 → Dec (i ≡ n) → bit_of more i ≡ 1
          nodes e i h (yes q) = rw q own
          nodes e i h (no q) = bit i q ∙ S.nodes e i (less i h q)

    pub saves_more : {after : List ℕ} {r : ℕ} → Mends n cap C kept mid after r → Saves (n + 1) cap C work after r
    saves_more (left e t) = saves_left (λ q. true≢false (sym q ∙ e))
    saves_more (mended {after = after} t K) = saves_mended after (λ e k. t e (rw row_begun k)) K

    pub spared_more : {after : List ℕ} {r : ℕ} → Mends n cap C kept mid after r → Spared n cap C work kept → Spared (n + 1) cap C work r
    spared_more (left e t) P i h b = elim (ℕ_discrete i n) [ yes q ↦ (e, rw (q, ← row_begun) t) | no q ↦ P i (omega arith) b ]
    spared_more (mended t K) P i h b = elim (ℕ_discrete i n) [
      | yes q ↦ absurd (omega (arith, b, added_own kept n (omega arith), ap (bit_of (bit_or kept (alone n))) q))
      | no q ↦ P i (omega arith) (sym (added_other kept n i (omega arith) q) ∙ b)
    ]

    -- the rows before are as they were
    entry_before : {after : List ℕ} {r : ℕ} → Mends n cap C kept mid after r → (i x : ℕ) → i < n → x < 64 → get_or after (i * 64 + x) 0 ≡ get_or mid (i * 64 + x) 0
    entry_before (left e t) i x l h = refl
    entry_before (mended t K) i x l h = K.other (i * 64 + x) (inl (omega arith)) (inl (omega arith))

    pub away_before : {after : List ℕ} {r : ℕ} → Mends n cap C kept mid after r → (ys : List Arc) (starts : List ℕ)
        → AwaySame ys (get_or starts n 0) (row_at mid n) (row_at after n) → RowsAway n ys starts work mid → RowsAway (n + 1) ys starts work after
    away_before {after} M ys starts R B i h x hx a = elim (ℕ_discrete i n) [
      | yes q ↦ rw q (sym (row_entry after n x hx) ∙ R x (rw q at a) ∙ row_entry mid n x hx ∙ S.beside (n * 64 + x) (omega arith) (omega arith))
      | no q ↦ entry_before M i x (omega arith) hx ∙ B i (omega arith) x hx a
    ]

    pub rows_before : {after : List ℕ} {r : ℕ} → Mends n cap C kept mid after r → (N : Net) (starts : List ℕ) → N.nodes ≤ 64
        → RowIs N cap (get_or starts n 0) (row_at after n) → RowsAre N cap starts n mid → RowsAre N cap starts (n + 1) after
    rows_before {after} M N starts small R B i h x hx = go (ℕ_discrete i n)
      where
        go : Dec (i ≡ n) → get_or after (i * 64 + x) 0 ≡ held cap (least (graph N) (closed N) [] (get_or starts i 0) x)
        go (yes q) = rw q (sym (row_entry after n x (omega arith)) ∙ R x hx)
        go (no q) = entry_before M i x (omega arith) (omega arith) ∙ B i (omega arith) x hx

pub part_row : (work : List ℕ) (i : ℕ) → take (i * 64 + 64 - i * 64) (drop (i * 64) work) ≡ row_at work i
part_row work i = let e : i * 64 + 64 - i * 64 ≡ 64 = omega arith in ap (λ (n : ℕ). take n (drop (i * 64) work)) e

-- row i is kept, and then written anew
module _ (i : ℕ) (work mid ys zs : List ℕ) (few : i < 9) (long : length work ≡ 3648) (long' : length mid ≡ 3648) (size : length ys ≡ 64)
    (rest : zs ≡ drop 64 (drop (i * 64) mid)) (P : RowPut work (i * 64) (3072 + i * 64) mid) where
  abbrev written : List ℕ
  written = take (i * 64) mid ++ (ys ++ zs)

  part_other : (j : ℕ) → (j < i * 64) ⊎ (i * 64 + 64 ≤ j) → get_or written j 0 ≡ get_or mid j 0
  part_other j (inl h) = part_before (i * 64) j mid (ys ++ zs) (omega arith) h
  part_other j (inr h) =
      let e : i * 64 + (64 + (j - (i * 64 + 64))) ≡ j = omega arith in
      let at : length (take (i * 64) mid) ≡ i * 64 = length-take-le (i * 64) mid (omega arith) in
      ap (λ (k : ℕ). get_or written k 0) (sym e)
      ∙ ap (λ (k : ℕ). get_or written (k + (64 + (j - (i * 64 + 64)))) 0) (sym at)
      ∙ get_or-append-add (take (i * 64) mid) (ys ++ zs) (64 + (j - (i * 64 + 64))) 0
      ∙ ap (λ (k : ℕ). get_or (ys ++ zs) (k + (j - (i * 64 + 64))) 0) (sym size)
      ∙ get_or-append-add ys zs (j - (i * 64 + 64)) 0
      ∙ ap (λ (l : List ℕ). get_or l (j - (i * 64 + 64)) 0) rest
      ∙ get_or-drop 64 (drop (i * 64) mid) (j - (i * 64 + 64)) 0
      ∙ get_or-drop (i * 64) mid (64 + (j - (i * 64 + 64))) 0
      ∙ ap (λ (k : ℕ). get_or mid k 0) e

  pub row_kept : KeptRow i work written
  row_kept = record {
    kept = λ x h. part_other (3072 + i * 64 + x) (inr (omega arith)) ∙ P.there x h;
    other = λ j a b. part_other j a ∙ P.other j b;
  }

  -- the row before it is written
  pub row_there : take (i * 64 + 64 - i * 64) (drop (i * 64) mid) ≡ row_at work i
  row_there = part_row mid i ∙ row_same i work mid few long long' (λ x h. P.other (i * 64 + x) (inl (omega arith)))

  pub row_written : row_at written i ≡ ys
  row_written =
      ext_get_or 0 _ _ (count ∙ sym size) (λ x h. row_entry written i x (omega (arith, count)) ∙ part_in (i * 64) x mid ys zs (omega arith) (omega (arith, count)))
    where
      count : length (row_at written i) ≡ 64
      count =
          length-take-le 64 (drop (i * 64) written)
          (omega (arith, length-drop (i * 64) written, length-append (take (i * 64) mid) (ys ++ zs), length-append ys zs, length-take-le (i * 64) mid (omega arith)))
