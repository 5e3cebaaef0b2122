-- A number written reads back as itself with any bytes after it, and what was read does not depend on the bytes after it. Assumes nothing.
use Prim.Native.Nat.{ℕ, zero, suc, ◌+◌, ◌-◌, ◌*◌, ◌/◌, ◌%◌, ◌≤◌, ◌<◌}
use mathlib.Core.Path.{◌≡◌, refl, sym, ap, ◌∙◌, subst}
use mathlib.Core.Bool.{Bool, true, false}
use mathlib.Core.List.{List, [], ◌∷◌, ◌++◌, append_assoc}
use native.Mathlib.Omega.{arith}
use lib.ListN.{length, length-append}
use lib.Dec.{ltb}
use borrow.Author.Tests.{ltb-true, ltb-false, le-ltb, lt-ltb}
use Rattle.lists.specs.Lists.{pick}
use Rattle.lists.proofs.Pigeonhole.{Below, below_append}
use Rattle.varint.proofs.ReadLaws.{last_kept, weights}
use Rattle.varint.proofs.DecidedLaws.{number_decided}
use Rattle.varint.specs.Varint.{Read, got, refuse, after, above, read_groups, read_number, judged, number, several, write_groups, write_number, write_numbers}

groups_back : (k x : ℕ) (t : List ℕ) → x < weights (suc k) → (x ≡ 0 → 3 ≤ k) → read_groups k (write_groups k x ++ t) ≡ got x t
unfolding read_groups write_groups above
groups_back zero x t h f = let z : ltb x 128 ≡ true = lt-ltb x 128 h in rw z (last_kept zero x t f)
groups_back (suc k) x t h f = go (ltb x 128) refl (groups_back k (x / 128) t (omega arith))
  where
    go : (b : Bool) → ltb x 128 ≡ b → ((x / 128 ≡ 0 → 3 ≤ k) → read_groups k (write_groups k (x / 128) ++ t) ≡ got (x / 128) t)
        → read_groups (suc k) (pick b (x ∷ []) ((128 + x % 128) ∷ write_groups k (x / 128)) ++ t) ≡ got x t
    go true q ih = rw q (last_kept (suc k) x t f)
    go false q ih =
        let l = ltb-false x 128 q in
        let z : ltb (128 + x % 128) 128 ≡ false = le-ltb (128 + x % 128) 128 (omega arith) in
        let v : 128 + x % 128 - 128 + 128 * (x / 128) ≡ x = omega arith in
        rw (z, ih (λ e. absurd (omega arith)), v)

-- a number below 2 to the 28 reads back as itself, with any bytes after it
pub number_back : (x : ℕ) (t : List ℕ) → x < 268435456 → read_number (write_number x ++ t) ≡ got x t
unfolding read_number write_number
number_back x t h = groups_back 3 x t (omega arith) (λ e. omega arith)

-- What reading takes from the front: the bytes that it read, and that they read the same before any others.
pub record Front {A : Type 0} (f : List ℕ → Read A) (bs : List ℕ) (x : A) (rest : List ℕ) : Type 0 where
  pub bytes : List ℕ
  pub parts : bs ≡ bytes ++ rest
  pub again : (t : List ℕ) → f (bytes ++ t) ≡ got x t

-- once a number is read, no later byte alters it
pub number_front : (bs : List ℕ) (x : ℕ) (rest : List ℕ) → read_number bs ≡ got x rest → Front read_number bs x rest
number_front bs x rest e =
    let d = number_decided bs x rest e in
    record { bytes = d.0.bytes; parts = d.0.parts ∙ ap (d.0.bytes ++◌) d.1; again = d.0.again }

-- reading on: where the whole gives a value, the first part gave one and the next went on from it
pub after_got : {A B : Type 0} (r : Read A) (f : A → List ℕ → Read B) (b : B) (rest : List ℕ) → after r f ≡ got b rest
    → (a : A) × (bs : List ℕ) × (r ≡ got a bs) × (f a bs ≡ got b rest)
unfolding after
after_got (got a bs) f b rest e = (a, bs, refl, e)
after_got (refuse x) f b rest e = absurd (let z : ◌≡◌ {A = ℕ} 0 1 = cc in omega arith)

pub got_both : {A : Type 0} (x y : A) (r s : List ℕ) → got x r ≡ got y s → (x ≡ y) × (r ≡ s)
got_both x y r s e = (cc, cc)

-- a value that was judged passed the test
pub number_got : (e : ℕ) (ok : ℕ → Bool) (bs : List ℕ) (x : ℕ) (rest : List ℕ) → number e ok bs ≡ got x rest → (ok x ≡ true) × (read_number bs ≡ got x rest)
unfolding number judged
number_got e ok bs x rest q =
    let s = after_got (read_number bs) (judged e ok) x rest q in
    let w = go s.0 s.1 (ok s.0) refl s.3 in
    (w.0, s.2 ∙ w.1)
  where
    go : (y : ℕ) (cs : List ℕ) (t : Bool) → ok y ≡ t → pick t (got y cs) (refuse e) ≡ got x rest → (ok x ≡ true) × (got y cs ≡ got x rest)
    go y cs true p z = let w : y ≡ x = cc in (subst (λ (v : ℕ). ok v ≡ true) w p, z)
    go y cs false p z = absurd (let w : ◌≡◌ {A = ℕ} 0 1 = cc in omega arith)

-- and the other way
pub got_number : (e : ℕ) (ok : ℕ → Bool) (bs : List ℕ) (x : ℕ) (rest : List ℕ) → read_number bs ≡ got x rest → ok x ≡ true → number e ok bs ≡ got x rest
unfolding number judged after
got_number e ok bs x rest p q = rw (p, q)

pub judged_front : (e : ℕ) (ok : ℕ → Bool) (bs : List ℕ) (x : ℕ) (rest : List ℕ) → number e ok bs ≡ got x rest → Front (number e ok) bs x rest
judged_front e ok bs x rest q =
    let s = number_got e ok bs x rest q in
    let f = number_front bs x rest s.1 in
    record { bytes = f.bytes; parts = f.parts; again = λ t. got_number e ok (f.bytes ++ t) x t (f.again t) s.0 }

-- two parts, one after the other
pub after_front : {A B : Type 0} (f : List ℕ → Read A) (g : A → List ℕ → Read B) (bs : List ℕ) (a : A) (mid : List ℕ) (b : B) (rest : List ℕ)
    → Front f bs a mid → Front (g a) mid b rest → Front (λ bs. after (f bs) g) bs b rest
unfolding after
after_front f g bs a mid b rest F G = record {
  bytes = F.bytes ++ G.bytes;
  parts = F.parts ∙ ap (F.bytes ++◌) G.parts ∙ sym (append_assoc F.bytes G.bytes rest);
  again = λ t. rw (append_assoc, F.again (G.bytes ++ t)) (G.again t);
}

-- the first of several, and the others
pub several_first : {A : Type 0} (f : List ℕ → Read A) (k : ℕ) (bs : List ℕ) (xs : List A) (rest : List ℕ) → several f (suc k) bs ≡ got xs rest
    → (a : A) × (cs : List ℕ) × (ys : List A) × (f bs ≡ got a cs) × (several f k cs ≡ got ys rest) × (xs ≡ a ∷ ys)
unfolding several
several_first f k bs xs rest e =
    let s = after_got (f bs) (λ a bs₁. after (several f k bs₁) (λ xs bs₂. got (a ∷ xs) bs₂)) xs rest e in
    let t = after_got (several f k s.1) (λ xs bs₂. got (s.0 ∷ xs) bs₂) xs rest s.3 in
    let z = got_both (s.0 ∷ t.0) xs t.1 rest t.3 in
    (s.0, s.1, t.0, s.2, t.2 ∙ ap (got t.0) z.1, sym z.0)

-- a row of numbers reads back
pub numbers_back : (xs t : List ℕ) → Below 268435456 xs → several read_number (length xs) (write_numbers xs ++ t) ≡ got xs t
unfolding several write_numbers after
numbers_back [] t h = refl
numbers_back (x ∷ xs) t h = rw (append_assoc, number_back x (write_numbers xs ++ t) h.0, numbers_back xs t h.1)

-- a number below 16,384 takes at most two bytes
pub number_size : (x : ℕ) → x < 16384 → (length (write_number x) ≤ 2) × Below 256 (write_number x)
unfolding write_number write_groups
number_size x h = go (ltb x 128) refl
  where
    go : (t : Bool) → ltb x 128 ≡ t → (length (write_groups 3 x) ≤ 2) × Below 256 (write_groups 3 x)
    go true q = rw (q, write_groups) (omega arith, (omega (arith, ltb-true x 128 q), tt))
    go false q = let z : ltb (x / 128) 128 ≡ true = lt-ltb (x / 128) 128 (omega arith) in rw (q, z, write_groups) (omega arith, (omega arith, (omega arith, tt)))

pub numbers_size : (xs : List ℕ) → Below 16384 xs → (length (write_numbers xs) ≤ 2 * length xs) × Below 256 (write_numbers xs)
unfolding write_numbers
numbers_size [] h = (omega arith, tt)
numbers_size (x ∷ xs) h =
    let s = number_size x h.0 in
    let i = numbers_size xs h.1 in
    (omega (arith, length-append (write_number x) (write_numbers xs), s.0, i.0), below_append 256 (write_number x) (write_numbers xs) s.1 i.1)
