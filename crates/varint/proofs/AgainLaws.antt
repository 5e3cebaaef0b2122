-- A number that was read, written again, is the bytes that it was read from. By the induction of reading: each group but the last is at least 128 and,
-- being a byte, below 256, so it is what the number's lowest seven bits are written as; and what the later groups say is not 0, since a last group of
-- zero is needless, so that writing goes on as reading did. Assumes nothing.
use Prim.Native.Nat.{ℕ, zero, suc, ◌+◌, ◌-◌, ◌*◌, ◌/◌, ◌%◌, ◌≤◌, ◌<◌}
use mathlib.Core.Path.{◌≡◌, refl, ap, ◌∙◌}
use mathlib.Core.Bool.{Bool, true, false, ◌&&◌}
use mathlib.Core.List.{List, [], ◌∷◌, ◌++◌}
use native.Mathlib.Omega.{arith}
use lib.Dec.{eqb, ltb}
use borrow.Author.Tests.{le-ltb, ltb-true, ltb-false}
use Rattle.lists.specs.Lists.{pick}
use Rattle.lists.proofs.Pigeonhole.{Below}
use Rattle.varint.proofs.ReadLaws.{weights, weights_some, last_needless}
use Rattle.varint.proofs.WriteLaws.{groups_last}
use Rattle.varint.specs.Varint.{Read, got, refuse, last_group, above, read_groups, read_number, write_groups, write_number}

-- what was read of a number of which `left` groups might follow the first: its bytes, its size, and that its last group is not needless
record Again (left : ℕ) (bs : List ℕ) (x : ℕ) (rest : List ℕ) : Type 0 where
  bytes : bs ≡ write_groups left x ++ rest
  small : x < weights (suc left)
  some : left < 3 → 0 < x

last_got : (left b : ℕ) (bs : List ℕ) (x : ℕ) (rest : List ℕ) → last_group left b bs ≡ got x rest → (x ≡ b) × (rest ≡ bs)
unfolding last_group
last_got left b bs x rest e = go (eqb b 0 && ltb left 3) e
  where
    go : (t : Bool) → pick t (refuse 4) (got b bs) ≡ got x rest → (x ≡ b) × (rest ≡ bs)
    go true q = absurd (let z : ◌≡◌ {A = ℕ} 0 1 = cc in omega arith)
    go false q = (cc, cc)

last_some : (left b : ℕ) (bs : List ℕ) (x : ℕ) (rest : List ℕ) → last_group left b bs ≡ got x rest → left < 3 → 0 < b
last_some left zero bs x rest e h = absurd (let r = last_needless left zero bs refl h in let z : ◌≡◌ {A = ℕ} 0 1 = cc in omega arith)
last_some left (suc b) bs x rest e h = omega arith

last_again : (left b : ℕ) (bs : List ℕ) (x : ℕ) (rest : List ℕ) → b < 128 → last_group left b bs ≡ got x rest → Again left (b ∷ bs) x rest
last_again left b bs x rest h e =
    let s = last_got left b bs x rest e in
    let w : 0 < weights left = weights_some left in
    record {
      bytes = rw (s.0, s.1, groups_last left b (omega arith));
      small = omega (arith, s.0);
      some = λ l. omega (arith, s.0, last_some left b bs x rest e l);
    }

groups_again : (left : ℕ) (bs : List ℕ) (x : ℕ) (rest : List ℕ) → left ≤ 3 → Below 256 bs → read_groups left bs ≡ got x rest → Again left bs x rest
unfolding read_groups above write_groups
groups_again left [] x rest n B e = absurd (let z : ◌≡◌ {A = ℕ} 0 1 = cc in omega arith)
groups_again zero (b ∷ bs) x rest n B e = go (ltb b 128) refl e
  where
    go : (t : Bool) → ltb b 128 ≡ t → pick t (last_group zero b bs) (refuse 4) ≡ got x rest → Again zero (b ∷ bs) x rest
    go true q p = last_again zero b bs x rest (ltb-true b 128 q) p
    go false q p = absurd (let z : ◌≡◌ {A = ℕ} 0 1 = cc in omega arith)
groups_again (suc left) (b ∷ bs) x rest n B e = go (ltb b 128) refl e (λ y cs. groups_again left bs y cs (omega arith) B.1)
  where
    more : 128 ≤ b → (r : Read ℕ) → read_groups left bs ≡ r → above b r ≡ got x rest
        → ((y : ℕ) (cs : List ℕ) → read_groups left bs ≡ got y cs → Again left bs y cs) → Again (suc left) (b ∷ bs) x rest
    more h (refuse w) p e' ih = absurd (let z : ◌≡◌ {A = ℕ} 0 1 = cc in omega arith)
    more h (got y cs) p e' ih =
        let i = ih y cs p in
        let v : b - 128 + 128 * y ≡ x = cc in
        let z : cs ≡ rest = cc in
        let y0 : 0 < y = i.some (omega arith) in
        let b0 : b < 256 = B.0 in
        let q : ltb x 128 ≡ false = le-ltb x 128 (omega arith) in
        let m : 128 + x % 128 ≡ b = omega arith in
        let d : x / 128 ≡ y = omega arith in
        record {
          bytes = rw (q, m, d) (ap (b ∷◌) (i.bytes ∙ ap (write_groups left y ++◌) z));
          small = omega (arith, i.small);
          some = λ l. omega arith;
        }

    go : (t : Bool) → ltb b 128 ≡ t → pick t (last_group (suc left) b bs) (above b (read_groups left bs)) ≡ got x rest
        → ((y : ℕ) (cs : List ℕ) → read_groups left bs ≡ got y cs → Again left bs y cs) → Again (suc left) (b ∷ bs) x rest
    go true q p ih = last_again (suc left) b bs x rest (ltb-true b 128 q) p
    go false q p ih = more (ltb-false b 128 q) (read_groups left bs) refl p ih

-- a number that was read is below 2 to the 28, and written again it is the bytes that it was read from
pub number_again : (bs : List ℕ) (x : ℕ) (rest : List ℕ) → Below 256 bs → read_number bs ≡ got x rest → (bs ≡ write_number x ++ rest) × (x < 268435456)
unfolding read_number write_number
number_again bs x rest B e = let s = groups_again 3 bs x rest (omega arith) B e in (s.bytes, omega (arith, s.small))

-- what later groups say is not 0, whatever the bytes
groups_some : (left : ℕ) (bs : List ℕ) (x : ℕ) (rest : List ℕ) → left < 3 → read_groups left bs ≡ got x rest → 0 < x
unfolding read_groups above
groups_some left [] x rest l e = absurd (let z : ◌≡◌ {A = ℕ} 0 1 = cc in omega arith)
groups_some zero (b ∷ bs) x rest l e = go (ltb b 128) e
  where
    go : (t : Bool) → pick t (last_group zero b bs) (refuse 4) ≡ got x rest → 0 < x
    go true p = omega (arith, (last_got zero b bs x rest p).0, last_some zero b bs x rest p l)
    go false p = absurd (let z : ◌≡◌ {A = ℕ} 0 1 = cc in omega arith)
groups_some (suc left) (b ∷ bs) x rest l e = go (ltb b 128) e (λ y cs. groups_some left bs y cs (omega arith))
  where
    more : (r : Read ℕ) → read_groups left bs ≡ r → above b r ≡ got x rest → ((y : ℕ) (cs : List ℕ) → read_groups left bs ≡ got y cs → 0 < y) → 0 < x
    more (refuse w) p q ih = absurd (let z : ◌≡◌ {A = ℕ} 0 1 = cc in omega arith)
    more (got y cs) p q ih = let v : b - 128 + 128 * y ≡ x = cc in omega (arith, ih y cs p)

    go : (t : Bool) → pick t (last_group (suc left) b bs) (above b (read_groups left bs)) ≡ got x rest
        → ((y : ℕ) (cs : List ℕ) → read_groups left bs ≡ got y cs → 0 < y) → 0 < x
    go true p ih = omega (arith, (last_got (suc left) b bs x rest p).0, last_some (suc left) b bs x rest p l)
    go false p ih = more (read_groups left bs) refl p ih

-- a number below 128 is read from one byte alone, which is that number
pub low_read : (bs : List ℕ) (x : ℕ) (rest : List ℕ) → x < 128 → read_number bs ≡ got x rest → bs ≡ x ∷ rest
unfolding read_number read_groups above
low_read [] x rest l e = absurd (let z : ◌≡◌ {A = ℕ} 0 1 = cc in omega arith)
low_read (b ∷ bs) x rest l e = go (ltb b 128) e
  where
    more : (r : Read ℕ) → read_groups 2 bs ≡ r → above b r ≡ got x rest → b ∷ bs ≡ x ∷ rest
    more (refuse w) p q = absurd (let z : ◌≡◌ {A = ℕ} 0 1 = cc in omega arith)
    more (got y cs) p q = absurd (let v : b - 128 + 128 * y ≡ x = cc in omega (arith, groups_some 2 bs y cs (omega arith) p))

    go : (t : Bool) → pick t (last_group 3 b bs) (above b (read_groups 2 bs)) ≡ got x rest → b ∷ bs ≡ x ∷ rest
    go true p = let s = last_got 3 b bs x rest p in rw (s.0, s.1)
    go false p = more (read_groups 2 bs) refl p
