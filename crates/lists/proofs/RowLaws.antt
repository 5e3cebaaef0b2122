-- Numbers written one after the other over the front of a list, each in bytes of its own: laws for every way of writing one number.
-- Assumes nothing.
use Prim.Native.Nat.{ℕ, ◌+◌, ◌-◌, ◌≤◌, ◌<◌}
use mathlib.Core.Path.{◌≡◌, refl, ap, sym, ◌∙◌}
use mathlib.Core.List.{List, [], ◌∷◌, ◌++◌, append_assoc, append-nil}
use native.Mathlib.Omega.{arith}
use native.Mathlib.Numerals.{add-one}
use lib.ListN.{length, get_or, set, take, drop, length-append, take-append-drop}
use lib.Seq.{take-suc, take_all}
use Rattle.lists.proofs.FrontLaws.{put_none, Room, put_kept, put_within, put_room, put_end, put_on_lem, byte_within, put_byte}
use Rattle.lists.specs.Lists.{Put}

-- `row` writes values in a row, each as `one` writes it
pub record Rows {A : Type 0} (one : A → List ℕ) (row : List A → List ℕ) : Type 0 where
  pub empty : row [] ≡ []
  pub first : (x : A) (xs : List A) → row (x ∷ xs) ≡ one x ++ row xs

-- numbers that stand as they are
abbrev pub just : ℕ → List ℕ
just x = x ∷ []

pub just_rows : Rows just (λ (xs : List ℕ). xs)
just_rows = record { empty = refl; first = λ x xs. refl }

module _ {one : ℕ → List ℕ} {row : List ℕ → List ℕ} (R : Rows one row) where
  pub rows_append : (xs ys : List ℕ) → row (xs ++ ys) ≡ row xs ++ row ys
  rows_append [] ys = rw R.empty
  rows_append (x ∷ xs) ys = rw (R.first, R.first, rows_append xs ys) (sym (append_assoc (one x) (row xs) (row ys)))

  rows_next : (l : List ℕ) (j : ℕ) → j < length l → row (take (j + 1) l) ≡ row (take j l) ++ one (get_or l j 0)
  rows_next l j h =
      rw (add-one j, take-suc l j 0 h, rows_append (take j l) (get_or l j 0 ∷ []), R.first, R.empty, append-nil)

  rows_part : (l : List ℕ) (j : ℕ) → length (row (take j l)) ≤ length (row l)
  rows_part l j =
      omega (arith, ap (λ (xs : List ℕ). length (row xs)) (take-append-drop j l), ap length (rows_append (take j l) (drop j l)) ∙ length-append (row (take j l)) (row (drop j l)))

-- the first j numbers of l were written over the front of d, up to `at`, and there is room for all
pub record Row (one : ℕ → List ℕ) (row : List ℕ → List ℕ) (l d out : List ℕ) (at j : ℕ) : Type 0 where
  pub rows : Rows one row
  pub fits : length (row l) ≤ length d
  pub few : j ≤ length l
  pub written : Put (row (take j l)) d out at

pub begun : {one : ℕ → List ℕ} {row : List ℕ → List ℕ} (l d : List ℕ) → Rows one row → length (row l) ≤ length d → Row one row l d d 0 0
begun l d R h = record { rows = R; fits = h; few = omega arith; written = rw R.empty (put_none d) }

module _ {one : ℕ → List ℕ} {row : List ℕ → List ℕ} {l d out : List ℕ} {at j : ℕ} (w : Row one row l d out at j) where
  so_far : Room (row (take j l)) [] d
  so_far = record { fits = rw append-nil (omega (arith, rows_part w.rows l j, w.fits)) }

  pub row_kept : length out ≡ length d
  row_kept = put_kept so_far w.written

  pub row_within : at ≤ length out
  row_within = put_within so_far w.written

  pub row_done : length l ≤ j → Put (row l) d out at
  row_done h = rw (take_all j l h) at w.written

  -- the next number goes behind
  module _ (h : j < length l) where
    next : Room (row (take j l)) (one (get_or l j 0)) d
    next = record { fits = rw (← rows_next w.rows l j h) (omega (arith, rows_part w.rows l (j + 1), w.fits)) }

    pub row_room : length (one (get_or l j 0)) ≤ length (take (length out - at) (drop at out))
    row_room = put_room next w.written

    module _ {ys : List ℕ} {k : ℕ} (v : Put (one (get_or l j 0)) (take (length out - at) (drop at out)) ys k) where
      pub row_end : at + k ≤ length d
      row_end = put_end next w.written v

      pub row_more : Row one row l d (take at out ++ (ys ++ drop (length out - at) (drop at out))) (at + k) (j + 1)
      row_more =
          record { rows = w.rows; fits = w.fits; few = omega arith; written = rw (rows_next w.rows l j h) (put_on_lem next w.written v) }

    -- where it is written as one byte, that byte is stored
    module _ {x : ℕ} (e : one (get_or l j 0) ≡ x ∷ []) where
      byte_next : Room (row (take j l)) (x ∷ []) d
      byte_next = rw e at next

      pub row_store_within : at < length d
      row_store_within = byte_within byte_next w.written

      pub row_store : Row one row l d (set out at x) (at + 1) (j + 1)
      row_store =
          record { rows = w.rows; fits = w.fits; few = omega arith; written = rw (rows_next w.rows l j h, e) (put_byte byte_next w.written) }
