-- Once the number reader has a number or draws 4, no later byte alters that, and 3 is drawn exactly where more bytes are asked for. One induction over
-- the groups says which it is: a byte below 128 is the last one, and a fourth byte of 128 or more draws 4; what stands behind is handed on unread.
-- Assumes nothing.
use Prim.Native.Nat.{ℕ, zero, suc, ◌≤◌, ◌<◌}
use mathlib.Core.Path.{◌≡◌, refl, sym, ap, ◌∙◌, subst}
use mathlib.Core.Logic.{◌⊎◌, inl, inr, ⊎_elim}
use mathlib.Core.Bool.{Bool, true, false, ◌&&◌}
use mathlib.Core.List.{List, [], ◌∷◌}
use native.Mathlib.Omega.{arith}
use lib.ListN.{length, take, get_or}
use lib.Dec.{eqb, ltb}
use borrow.Author.Tests.{ltb-false, le-ltb}
use Rattle.lists.specs.Lists.{pick}
use Rattle.varint.proofs.ReadLaws.{none_yet, at_last}
use Rattle.varint.specs.Varint.{Read, got, refuse, last_group, above, read_groups, read_number}
use Rattle.varint.specs.Decided.{Decided, Asking}

-- what was read, with other bytes behind it
abbrev before_others : Read ℕ → List ℕ → Read ℕ
before_others (got x bs) = got x
before_others (refuse e) = λ t. refuse e

last_decided : (left b : ℕ) (bs t : List ℕ) → last_group left b t ≡ before_others (last_group left b bs) t
unfolding last_group
last_decided left b bs t = go (eqb b 0 && ltb left 3)
  where
    go : (c : Bool) → pick c (refuse 4) (got b t) ≡ before_others (pick c (refuse 4) (got b bs)) t
    go true = refl
    go false = refl

above_decided : (b : ℕ) (r : Read ℕ) (t : List ℕ) → above b (before_others r t) ≡ before_others (above b r) t
unfolding above
above_decided b (got x bs) t = refl
above_decided b (refuse e) t = refl

-- one byte decides
by_one : (left b : ℕ) (bs : List ℕ) → ((t : List ℕ) → read_groups left (b ∷ t) ≡ before_others (read_groups left (b ∷ bs)) t)
    → Decided (read_groups left) (suc left) (b ∷ bs) (before_others (read_groups left (b ∷ bs)))
by_one left b bs again = record {
  bytes = b ∷ [];
  rest = bs;
  parts = refl;
  some = omega arith;
  few = omega arith;
  again = again;
  before = λ k h. missing k (omega (arith, h));
}
  where
    missing : (k : ℕ) → k < 1 → read_groups left (take k (b ∷ [])) ≡ refuse 3
    missing zero h = none_yet left
    missing (suc k) h = absurd (omega arith)

last_no_three : (left b : ℕ) (bs : List ℕ) → last_group left b bs ≡ refuse 3 → ⊥
unfolding last_group
last_no_three left b bs = go (eqb b 0 && ltb left 3)
  where
    go : (c : Bool) → pick c (refuse 4) (got b bs) ≡ refuse 3 → ⊥
    go true e = let z : ◌≡◌ {A = ℕ} 3 4 = cc in omega arith
    go false e = let z : ◌≡◌ {A = ℕ} 0 1 = cc in omega arith

-- a front of the bytes decides the answer, and it is not 3
record Known (left : ℕ) (bs : List ℕ) : Type 0 where
  answered : read_groups left bs ≡ refuse 3 → ⊥
  decided : Decided (read_groups left) (suc left) bs (before_others (read_groups left bs))

last_known : (left b : ℕ) (bs : List ℕ) → ltb b 128 ≡ true → Known left (b ∷ bs)
last_known left b bs q = record {
  answered = rw (at_last left b bs q) (last_no_three left b bs);
  decided = by_one left b bs (λ t. rw (at_last left b t q, at_last left b bs q) (last_decided left b bs t));
}

-- either more bytes are asked for, or a front of them decides
groups_known : (left : ℕ) (bs : List ℕ) → Asking left bs ⊎ Known left bs
unfolding read_groups above
groups_known left [] = inl (omega arith, λ i h. absurd (omega arith))
groups_known zero (b ∷ bs) = go (ltb b 128) refl
  where
    go : (c : Bool) → ltb b 128 ≡ c → Asking zero (b ∷ bs) ⊎ Known zero (b ∷ bs)
    go true q = inr (last_known zero b bs q)
    go false q = inr (record { answered = rw q (λ e. let z : ◌≡◌ {A = ℕ} 3 4 = cc in omega arith); decided = by_one zero b bs (λ t. rw q) })
groups_known (suc left) (b ∷ bs) = go (ltb b 128) refl (groups_known left bs)
  where
    each : 128 ≤ b → ((i : ℕ) → i < length bs → 128 ≤ get_or bs i 0) → (i : ℕ) → i < suc (length bs) → 128 ≤ get_or (b ∷ bs) i 0
    each l f zero h = l
    each l f (suc i) h = f i (omega arith)

    above_no_three : (r : Read ℕ) → (r ≡ refuse 3 → ⊥) → above b r ≡ refuse 3 → ⊥
    above_no_three (got x cs) n e = let z : ◌≡◌ {A = ℕ} 0 1 = cc in omega arith
    above_no_three (refuse w) n e = n e

    more : ltb b 128 ≡ false → Known left bs → Known (suc left) (b ∷ bs)
    more q k =
        let d = k.decided in
        record {
          answered = rw q (above_no_three (read_groups left bs) k.answered);
          decided = record {
            bytes = b ∷ d.bytes;
            rest = d.rest;
            parts = ap (b ∷◌) d.parts;
            some = omega arith;
            few = omega (arith, d.few);
            again = λ t. rw (q, d.again t) (above_decided b (read_groups left bs) t);
            before = missing;
          };
        }
      where
        missing : (i : ℕ) → i < suc (length k.decided.bytes) → read_groups (suc left) (take i (b ∷ k.decided.bytes)) ≡ refuse 3
        missing zero h = refl
        missing (suc i) h = rw (q, k.decided.before i (omega arith))

    go : (c : Bool) → ltb b 128 ≡ c → Asking left bs ⊎ Known left bs → Asking (suc left) (b ∷ bs) ⊎ Known (suc left) (b ∷ bs)
    go true q ih = inr (last_known (suc left) b bs q)
    go false q (inl a) = inl (omega (arith, a.0), each (ltb-false b 128 q) a.1)
    go false q (inr k) = inr (more q k)

short_groups : (left : ℕ) (bs : List ℕ) → Asking left bs → read_groups left bs ≡ refuse 3
unfolding read_groups above
short_groups left [] a = none_yet left
short_groups zero (b ∷ bs) a = absurd (omega (arith, a.0))
short_groups (suc left) (b ∷ bs) a =
    rw (le-ltb b 128 (a.1 0 (omega arith)), short_groups left bs (omega (arith, a.0), λ i h. a.1 (suc i) (omega arith)))

-- 3 is drawn only where more bytes are asked for
pub ends_short : (bs : List ℕ) → read_number bs ≡ refuse 3 → Asking 3 bs
unfolding read_number
ends_short bs e = ⊎_elim (λ a. a) (λ k. absurd (k.answered e)) (groups_known 3 bs)

-- and wherever they are
pub short_ends : (bs : List ℕ) → Asking 3 bs → read_number bs ≡ refuse 3
unfolding read_number
short_ends bs a = short_groups 3 bs a

-- an answer that is not 3 is decided
decided_as : (bs : List ℕ) (r : Read ℕ) → read_number bs ≡ r → (r ≡ refuse 3 → ⊥) → Decided read_number 4 bs (before_others r)
unfolding read_number
decided_as bs r e n = subst (λ (r : Read ℕ). Decided read_number 4 bs (before_others r)) e
    (⊎_elim (λ a. absurd (n (sym e ∙ short_groups 3 bs a))) (λ k. k.decided) (groups_known 3 bs))

-- once a number is read, no later byte alters it, and before its last byte there is none
pub number_decided : (bs : List ℕ) (x : ℕ) (rest : List ℕ) → read_number bs ≡ got x rest → (d : Decided read_number 4 bs (got x)) × (d.rest ≡ rest)
number_decided bs x rest e =
    let d = decided_as bs (got x rest) e (λ q. let z : ◌≡◌ {A = ℕ} 0 1 = cc in omega arith) in
    let a = d.again d.rest in
    let p = d.parts in
    (d, cc)

-- once 4 is drawn, no later byte alters it, and it is drawn at the byte that makes it one
pub overlong_decided : (bs : List ℕ) → read_number bs ≡ refuse 4 → Decided read_number 4 bs (λ t. refuse 4)
overlong_decided bs e = decided_as bs (refuse 4) e (λ q. let z : ◌≡◌ {A = ℕ} 3 4 = cc in omega arith)
