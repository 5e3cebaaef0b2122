-- Laws of writing numbers group by group over the front of a list. Assumes nothing.
use Prim.Native.Nat.{ℕ, zero, suc, ◌+◌, ◌≤◌, ◌<◌, ◌/◌, ◌%◌}
use mathlib.Core.Path.{◌≡◌, refl, ap, sym, ◌∙◌}
use mathlib.Core.List.{List, [], ◌∷◌, ◌++◌}
use mathlib.Core.Bool.{Bool, true, false}
use native.Mathlib.Omega.{arith}
use lib.Dec.{ltb}
use borrow.Author.Tests.{lt-ltb, le-ltb, ltb-true, ltb-false}
use lib.ListN.{length, get_or, set, length-append}
use lib.Seq.{append_snoc}
use Rattle.lists.specs.Lists.{pick, front, every}
use Rattle.lists.proofs.Pigeonhole.{Below}
use Rattle.lists.proofs.TestLaws.{and_true, true_and}
use Rattle.lists.proofs.FrontLaws.{length_front, push_at}
use Rattle.lists.proofs.RowLaws.{Rows}
use Rattle.varint.proofs.ReadLaws.{weights}
use Rattle.varint.specs.Varint.{write_groups, write_number, write_numbers}
use Rattle.varint.specs.Answer.{small}

pub groups_last : (k x : ℕ) → x ≤ 127 → write_groups k x ≡ x ∷ []
unfolding write_groups
groups_last zero x h = refl
groups_last (suc k) x h =
    let l : x < 128 = omega arith in
    ap (λ (t : Bool). pick t (x ∷ []) ((128 + x % 128) ∷ write_groups k (x / 128))) (lt-ltb x 128 l)

groups_more : (k x : ℕ) → 127 < x → write_groups (suc k) x ≡ (128 + x % 128) ∷ write_groups k (x / 128)
unfolding write_groups
groups_more k x h = let l : 128 ≤ x = omega arith in simp (le-ltb _ _ l)

groups_some : (k x : ℕ) → 1 ≤ length (write_groups k x)
unfolding write_groups
groups_some zero x = omega arith
groups_some (suc k) x = go (ltb x 128)
  where
    go : (t : Bool) → 1 ≤ length (pick t (x ∷ []) ((128 + x % 128) ∷ write_groups k (x / 128)))
    go true = omega arith
    go false = omega arith

-- i groups of x were written over the front of d, and `rest` is what remains of x
pub record Writing (x : ℕ) (d out : List ℕ) (rest i : ℕ) : Type 0 where
  pub xs : List ℕ
  pub k : ℕ
  pub size : length xs ≡ i
  pub holds : out ≡ front xs d
  pub same : write_number x ≡ xs ++ write_groups k rest
  pub small : rest < weights (suc k)

pub begun : (x : ℕ) (d : List ℕ) → x < 268435456 → Writing x d d x 0
unfolding write_number
begun x d h = record { xs = []; k = 3; size = refl; holds = refl; same = refl; small = omega arith }

module _ {x : ℕ} {d out : List ℕ} {rest i : ℕ} (w : Writing x d out rest i) where
  pub room : length (write_number x) ≤ length d → i < length d
  room h = omega (arith, ap length w.same ∙ length-append w.xs (write_groups w.k rest), groups_some w.k rest, w.size)

  pub kept : length (write_number x) ≤ length d → length out ≡ length d
  kept h = let r : i < length d = room h in ap length w.holds ∙ length_front w.xs d (omega (arith, w.size))

  pub within : length (write_number x) ≤ length d → i < length out
  within h = omega (arith, room h, kept h)

  pub written : length (write_number x) ≤ length d → rest ≤ 127 → (i + 1 ≡ length (write_number x)) × (set out i rest ≡ front (write_number x) d)
  written h l =
      let e : write_number x ≡ w.xs ++ (rest ∷ []) = w.same ∙ ap (λ (ys : List ℕ). w.xs ++ ys) (groups_last w.k rest l) in (
        omega (arith, ap length e ∙ length-append w.xs (rest ∷ []), w.size),
        rw e (push_at w.xs d out i rest w.holds w.size (room h)),
      )

more_at :
    {x : ℕ} {d out : List ℕ} {rest i : ℕ} (k : ℕ) (xs : List ℕ) → length xs ≡ i → out ≡ front xs d → write_number x ≡ xs ++ write_groups k rest
    → rest < weights (suc k) → i < length d → 127 < rest → Writing x d (set out i (128 + rest % 128)) (rest / 128) (i + 1)
more_at zero xs l e s m h g = absurd (omega arith)
more_at {rest = rest} {i = i} (suc k) xs l e s m h g =
    record {
      xs = xs ++ ((128 + rest % 128) ∷ []);
      k = k;
      size = simp length-append (omega arith);
      holds = push_at xs _ _ _ _ e l h;
      same = s ∙ rw (groups_more k rest g) (sym (append_snoc xs _ _));
      small = omega arith;
    }

pub more :
    {x : ℕ} {d out : List ℕ} {rest i : ℕ} → Writing x d out rest i → i < length d → 127 < rest
    → Writing x d (set out i (128 + rest % 128)) (rest / 128) (i + 1)
more w h g = more_at w.k w.xs w.size w.holds w.same w.small h g

pub ruleset writing = (begun, room, within, more)

pub small_at : (xs : List ℕ) (i : ℕ) → small xs ≡ true → i < length xs → get_or xs i 0 < 268435456
unfolding small
small_at [] i e h = absurd (omega arith)
small_at (x ∷ xs) zero e h = ltb-true x 268435456 (and_true (ltb x 268435456) _ e).0
small_at (x ∷ xs) (suc i) e h = small_at xs i (and_true (ltb x 268435456) _ e).1 (omega arith)

-- numbers below a bound that is small enough are small, and small ones are below 2 to the 28
pub small_below : (n : ℕ) (xs : List ℕ) → n ≤ 268435456 → Below n xs → small xs ≡ true
unfolding small
small_below n [] l b = refl
small_below n (x ∷ xs) l b = true_and (lt-ltb x 268435456 (omega (arith, b.0))) (small_below n xs l b.1)

pub below_small : (xs : List ℕ) → small xs ≡ true → Below 268435456 xs
unfolding small
below_small [] e = tt
below_small (x ∷ xs) e = let s = and_true (ltb x 268435456) (small xs) e in (ltb-true x 268435456 s.0, below_small xs s.1)

-- a number of so many groups takes at most so many bytes
groups_short : (k j x : ℕ) → x < weights (suc j) → length (write_groups k x) ≤ suc j
unfolding write_groups
groups_short zero j x h = omega arith
groups_short (suc k) j x h = go (ltb x 128) refl j h (groups_short k)
  where
    go : (t : Bool) → ltb x 128 ≡ t → (j : ℕ) → x < weights (suc j) → ((j y : ℕ) → y < weights (suc j) → length (write_groups k y) ≤ suc j)
        → length (pick t (x ∷ []) ((128 + x % 128) ∷ write_groups k (x / 128))) ≤ suc j
    go true q j l ih = omega arith
    go false q zero l ih = absurd (omega (arith, ltb-false x 128 q))
    go false q (suc j) l ih = omega (arith, ih j (x / 128) (omega arith))

pub number_short : (j x : ℕ) → x < weights (suc j) → length (write_number x) ≤ suc j
unfolding write_number
number_short j x h = groups_short 3 j x h

-- numbers in a row are written number by number
pub numbers_rows : Rows write_number write_numbers
unfolding write_numbers
numbers_rows = record { empty = refl; first = λ x xs. refl }
