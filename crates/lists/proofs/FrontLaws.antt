-- Laws of a list that is filled from its front, and of a list of zeros. Assumes nothing.
use Prim.Native.Nat.{ℕ, zero, suc, ◌+◌, ◌-◌, ◌≤◌, ◌<◌, min}
use mathlib.Core.Path.{◌≡◌, refl, ap, sym, ◌∙◌}
use mathlib.Core.List.{List, [], ◌∷◌, ◌++◌, append_assoc, append-nil}
use native.Mathlib.Omega.{arith, min_cases}
use native.Mathlib.Numerals.{add-one}
use lib.ListN.{length, replicate, get_or, take, drop, set, drop_of_length-le, length-append, length-take, length-drop, length-set}
use lib.Seq.{drop-append-add, drop-cons, set-append_seam, append_snoc, take_all, take_at, drop_at, drop-drop, drop-length}
use Rattle.lists.specs.Lists.{front, Put}

-- a number of a list of zeros, or behind it
pub zeros_at : (n k : ℕ) → get_or {A = ℕ} (replicate n 0) k 0 ≡ 0
zeros_at zero k = refl
zeros_at (suc n) zero = refl
zeros_at (suc n) (suc k) = zeros_at n k

pub length_front : {A : Type 0} (xs d : List A) → length xs ≤ length d → length (front xs d) ≡ length d
length_front xs d h = simp (length-append, length-drop) (omega arith)

-- a list over the front of one as long is that list
pub front_whole : {A : Type 0} (xs d : List A) → length d ≤ length xs → front xs d ≡ xs
front_whole xs d h = ap (λ ys. xs ++ ys) (drop_of_length-le d h) ∙ append-nil xs

-- taking or dropping no more than there is takes or drops the same
pub take_least : {A : Type 0} (n : ℕ) (xs : List A) → take (min n (length xs)) xs ≡ take n xs
take_least n xs =
    min_cases n (length xs) (take (min n (length xs)) xs ≡ take n xs) (λ h e. rw e) (λ h e. rw e (take_all (length xs) xs (omega arith) ∙ sym (take_all n xs h)))

pub drop_least : {A : Type 0} (n : ℕ) (xs : List A) → drop (min n (length xs)) xs ≡ drop n xs
drop_least n xs = min_cases n (length xs) (drop (min n (length xs)) xs ≡ drop n xs) (λ h e. rw e) (λ h e. rw e (drop-length xs ∙ sym (drop_of_length-le xs h)))

-- what stays behind a place stays behind a later one
pub drop_further : {A : Type 0} (m n : ℕ) (u v : List A) → m ≤ n → drop m u ≡ drop m v → drop n u ≡ drop n v
drop_further m n u v h e =
    let q : m + (n - m) ≡ n = omega arith in
    ap (λ (k : ℕ). drop k u) (sym q) ∙ sym (drop-drop (n - m) m u) ∙ ap (drop (n - m)) e ∙ drop-drop (n - m) m v ∙ ap (λ (k : ℕ). drop k v) q

-- what is behind the front is as it was
pub front_rest : {A : Type 0} (xs d : List A) (n : ℕ) → length xs ≤ n → drop n (front xs d) ≡ drop n d
front_rest xs d n h =
    let k : length xs + (n - length xs) ≡ n = omega arith in
    ap (λ (i : ℕ). drop i (front xs d)) (sym k) ∙ drop-append-add xs (drop (length xs) d) (n - length xs) ∙ drop-drop (n - length xs) (length xs) d
    ∙ ap (λ (i : ℕ). drop i d) k

pub push : {A : Type 0} (xs d : List A) (v : A) → length xs < length d → set (front xs d) (length xs) v ≡ front (xs ++ (v ∷ [])) d
push xs d v h =
    let k : length (xs ++ (v ∷ [])) ≡ suc (length xs) = length-append xs (v ∷ []) ∙ add-one (length xs) in
    rw (drop-cons d (length xs) v h, set-append_seam, k) (sym (append_snoc xs v (drop (suc (length xs)) d)))

-- one number more, stored after those in front
pub push_at : {A : Type 0} (xs d out : List A) (i : ℕ) (v : A) → out ≡ front xs d → length xs ≡ i → i < length d → set out i v ≡ front (xs ++ (v ∷ [])) d
push_at xs d out i v e l h = rw (e, ← l) (push xs d v (rw (← l) at h))

-- vs, written over the front of the part from `at` on, of a list with xs over its front
pub part_front :
    (xs vs d out : List ℕ) (at : ℕ) (ys : List ℕ) → at ≡ length xs → out ≡ front xs d → length xs ≤ length d
    → ys ≡ front vs (take (length out - at) (drop at out)) → take at out ++ (ys ++ drop (length out - at) (drop at out)) ≡ front (xs ++ vs) d
part_front xs vs d out at ys a e h y =
    let f : drop at out ≡ drop at d = rw (e, a) (drop_at xs (drop (length xs) d) (length xs) refl) in
    let t : take at out ≡ xs = rw (e, a) (take_at xs (drop (length xs) d) (length xs) refl) in
    let n : length out ≡ length d = ap length e ∙ length_front xs d h in
    let m : length (drop at d) ≤ length out - at = simp length-drop (omega arith) in
    let all : take (length out - at) (drop at d) ≡ drop at d = take_all _ _ m in
    let none : drop (length out - at) (drop at d) ≡ [] = drop_of_length-le (drop at d) m in
    let l : length (xs ++ vs) ≡ at + length vs = simp length-append (omega arith) in
    rw (y, f, t, all, none, append-nil, drop-drop, l) (sym (append_assoc xs vs _))

pub put_none : (d : List ℕ) → Put [] d d 0
put_none d = (refl, refl)

-- d has room for a and, behind it, b
pub record Room (a b d : List ℕ) : Type 0 where
  pub fits : length (a ++ b) ≤ length d

pub first_fits : {a b d : List ℕ} → Room a b d → length a ≤ length d
first_fits {a} {b} R = omega (arith, R.fits, length-append a b)

pub room_before : {a b c d : List ℕ} → Room (a ++ b) c d → Room a b d
room_before R = record { fits = first_fits R }

-- a was written, and b goes behind it
module _ {a b d : List ℕ} (R : Room a b d) {out : List ℕ} {at : ℕ} (w : Put a d out at) where
  both_fit : length a + length b ≤ length d
  both_fit = rw (← length-append a b) R.fits

  pub put_kept : length out ≡ length d
  put_kept = ap length w.1 ∙ length_front a d (first_fits R)

  pub put_within : at ≤ length out
  put_within = omega (arith, put_kept, both_fit, w.0)

  pub put_room : length b ≤ length (take (length out - at) (drop at out))
  put_room = simp (length-take, length-drop) (omega (arith, put_kept, both_fit, w.0))

  module _ {ys : List ℕ} {k : ℕ} (v : Put b (take (length out - at) (drop at out)) ys k) where
    pub put_end : at + k ≤ length d
    put_end = omega (arith, both_fit, w.0, v.0)

    pub put_on_lem : Put (a ++ b) d (take at out ++ (ys ++ drop (length out - at) (drop at out))) (at + k)
    put_on_lem = (simp length-append (omega (arith, w.0, v.0)), part_front a b d out at ys w.0 w.1 (first_fits R) v.1)

    pub on_kept : length (take at out ++ (ys ++ drop (length out - at) (drop at out))) ≡ length d
    on_kept = ap length put_on_lem.1 ∙ length_front (a ++ b) d R.fits

-- the same for one byte
module _ {a d : List ℕ} {x : ℕ} (R : Room a (x ∷ []) d) {out : List ℕ} {at : ℕ} (w : Put a d out at) where
  pub byte_within : at < length d
  byte_within = omega (arith, both_fit R w, w.0)

  pub byte_kept : length (set out at x) ≡ length d
  byte_kept = length-set out at x ∙ put_kept R w

  pub put_byte : Put (a ++ (x ∷ [])) d (set out at x) (at + 1)
  put_byte = (simp length-append (omega (arith, w.0)), push_at a d out at x w.1 (sym w.0) byte_within)
