-- Laws of values of one kind that are read one after the other, and stored over the front of a list. Assumes nothing.
use Prim.Native.Nat.{ℕ, zero, suc, ◌+◌, ◌-◌, ◌≤◌, ◌<◌}
use mathlib.Core.Path.{◌≡◌, refl, ap, sym, ◌∙◌}
use mathlib.Core.List.{List, [], ◌∷◌, ◌++◌, append_assoc, append-nil}
use native.Mathlib.Omega.{arith}
use lib.ListN.{length, set, take, drop, length-append, length-drop, drop_of_length-le, take-append-drop}
use lib.Seq.{drop-append_seam, length-take-le}
use Rattle.std.proofs.lemmas.List.{drop-append-le}
use Rattle.lists.specs.Lists.{front}
use Rattle.lists.proofs.FrontLaws.{push_at}
use Rattle.varint.proofs.ReadLaws.{none_yet}
use Rattle.varint.proofs.VarintLaws.{several_first, got_both, number_front}
use Rattle.varint.specs.Varint.{Read, got, refuse, after, several, read_number}
use Rattle.numbers.specs.Begun.{ahead, begun}

-- the values xs, read before others
abbrev pub before : {A : Type 0} → List A → Read (List A) → Read (List A)
before xs (got ys bs) = got (xs ++ ys) bs
before xs (refuse e) = refuse e

before_none : {A : Type 0} (r : Read (List A)) → before [] r ≡ r
before_none (got ys bs) = refl
before_none (refuse e) = refl

before_both : {A : Type 0} (xs ys : List A) (r : Read (List A)) → before xs (before ys r) ≡ before (xs ++ ys) r
before_both xs ys (got zs bs) = ap (λ ws. got ws bs) (sym (append_assoc xs ys zs))
before_both xs ys (refuse e) = refl

before_one : {A : Type 0} (a : A) (r : Read (List A)) → after r (λ xs bs. got (a ∷ xs) bs) ≡ before (a ∷ []) r
unfolding after
before_one a (got ys bs) = refl
before_one a (refuse e) = refl

module _ {A : Type 0} (f : List ℕ → Read A) (k : ℕ) {bs : List ℕ} where
  several_more : {a : A} {rest : List ℕ} → got a rest ≡ f bs → several f (suc k) bs ≡ before (a ∷ []) (several f k rest)
  unfolding several after
  several_more {a} {rest} e = rw (several, ← e) (before_one a (several f k rest))

  several_not : {e : ℕ} → refuse e ≡ f bs → several f (suc k) bs ≡ refuse e
  unfolding several after
  several_not e = rw (several, ← e)

  begun_more : {a : A} {rest : List ℕ} → got a rest ≡ f bs → begun f (suc k) bs ≡ a ∷ begun f k rest
  unfolding begun ahead
  begun_more e = rw (begun, ← e)

  begun_not : {e : ℕ} → refuse e ≡ f bs → begun f (suc k) bs ≡ []
  unfolding begun ahead
  begun_not e = rw (begun, ← e)

-- j of m values were read, and the bytes `rest` follow
pub record Going {A : Type 0} (f : List ℕ → Read A) (m : ℕ) (bs : List ℕ) (j : ℕ) (rest : List ℕ) : Type 0 where
  pub xs : List A
  pub few : j ≤ m
  pub size : length xs ≡ j
  pub same : several f m bs ≡ before xs (several f (m - j) rest)
  pub left : begun f m bs ≡ xs ++ begun f (m - j) rest

pub go_start : {A : Type 0} (f : List ℕ → Read A) (m : ℕ) (bs : List ℕ) → Going f m bs 0 bs
go_start f m bs =
    let e : m - 0 ≡ m = omega arith in
    record { xs = []; few = omega arith; size = refl; same = rw e (sym (before_none (several f m bs))); left = rw e }

module _ {A : Type 0} {f : List ℕ → Read A} {m : ℕ} {bs : List ℕ} {j : ℕ} {rest : List ℕ} (w : Going f m bs j rest) where
  pub go_more : {a : A} {next : List ℕ} → j < m → got a next ≡ f rest → Going f m bs (j + 1) next
  go_more {a} {next} l e =
      let k : m - j ≡ suc (m - (j + 1)) = omega arith in
      record {
        xs = w.xs ++ (a ∷ []);
        few = omega arith;
        size = simp length-append (omega (arith, w.size));
        same = w.same ∙ rw (k, several_more f (m - (j + 1)) e) (before_both w.xs (a ∷ []) (several f (m - (j + 1)) next));
        left = w.left ∙ rw (k, begun_more f (m - (j + 1)) e) (sym (append_assoc w.xs (a ∷ []) (begun f (m - (j + 1)) next)));
      }

  pub go_stops : {e : ℕ} → j < m → refuse e ≡ f rest → (refuse e ≡ several f m bs) × (begun f m bs ≡ w.xs)
  go_stops l e =
      let k : m - j ≡ suc (m - (j + 1)) = omega arith in
      (sym (w.same ∙ rw (k, several_not f (m - (j + 1)) e)), w.left ∙ rw (k, begun_not f (m - (j + 1)) e) (append-nil w.xs))

  pub go_done : m ≤ j → (got (begun f m bs) rest ≡ several f m bs) × (begun f m bs ≡ w.xs)
  unfolding several begun
  go_done l =
      let k : m - j ≡ 0 = omega arith in
      let b : begun f m bs ≡ w.xs = w.left ∙ rw k (append-nil w.xs) in
      (rw b (sym (w.same ∙ rw k (rw append-nil))), b)

pub go_refused :
    {A : Type 0} {f : List ℕ → Read A} {m : ℕ} {bs : List ℕ} {j : ℕ} {rest : List ℕ} {e : ℕ} → Going f m bs j rest → j < m → f rest ≡ refuse e
    → several f m bs ≡ refuse e
go_refused w l e = sym (go_stops w l (sym e)).0

pub go_got :
    {A : Type 0} {f : List ℕ → Read A} {m : ℕ} {bs : List ℕ} {j : ℕ} {rest : List ℕ} → Going f m bs j rest → m ≤ j
    → several f m bs ≡ got (begun f m bs) rest
go_got w l = sym (go_done w l).0

-- k values were asked for: so many were read, and these are the ones that `begun` names
pub several_read :
    {A : Type 0} (f : List ℕ → Read A) (k : ℕ) (bs : List ℕ) (xs : List A) (rest : List ℕ) → got xs rest ≡ several f k bs
    → (length xs ≡ k) × (begun f k bs ≡ xs)
unfolding several begun
several_read f zero bs xs rest e = let q : xs ≡ [] = cc in (ap length q, sym q)
several_read f (suc k) bs xs rest e =
    let s = several_first f k bs xs rest (sym e) in
    let i = several_read f k s.1 s.2 rest (sym s.4) in
    (ap length s.5 ∙ ap suc i.0, begun_more f k (sym s.3) ∙ ap (s.0 ∷◌) i.1 ∙ sym s.5)

-- the values of one kind, read so far, stand over the front of a list of them
pub record Storing {A : Type 0} (f : List ℕ → Read A) (m : ℕ) (bs : List ℕ) (old : List A) (j : ℕ) (rest : List ℕ) (out : List A) : Type 0 where
  pub way : Going f m bs j rest
  pub holds : out ≡ front way.xs old

pub store_start : {A : Type 0} (f : List ℕ → Read A) (m : ℕ) (bs : List ℕ) (old : List A) → Storing f m bs old 0 bs old
unfolding go_start
store_start f m bs old = record { way = go_start f m bs; holds = refl }

module _
    {A : Type 0} {f : List ℕ → Read A} {m : ℕ} {bs : List ℕ} {old : List A} {j : ℕ} {rest : List ℕ} {out : List A} (w : Storing f m bs old j rest out)
  where
    pub store_kept : m ≤ length old → length out ≡ length old
    store_kept room = ap length w.holds ∙ simp (length-append, length-drop) (omega (arith, w.way.size, w.way.few))

    pub store_more : {a : A} {next : List ℕ} → j < m → m ≤ length old → f rest ≡ got a next → Storing f m bs old (j + 1) next (set out j a)
    unfolding go_more
    store_more {a} {next} l room e = record { way = go_more w.way l (sym e); holds = push_at w.way.xs old out j a w.holds w.way.size (omega arith) }

    pub store_refused : {e : ℕ} → j < m → f rest ≡ refuse e → several f m bs ≡ refuse e
    store_refused l e = sym (go_stops w.way l (sym e)).0

    pub store_stops : {e : ℕ} → j < m → f rest ≡ refuse e → out ≡ front (begun f m bs) old
    store_stops l e = let k = go_stops w.way l (sym e) in rw k.1 w.holds

    pub store_done : m ≤ j → out ≡ front (begun f m bs) old
    store_done l = let k = go_done w.way l in rw k.1 w.holds

    pub store_got : m ≤ j → m ≡ length old → several f m bs ≡ got out rest
    store_got l room =
        let k = go_done w.way l in
        let z : drop (length w.way.xs) old ≡ [] = drop_of_length-le old (omega (arith, w.way.size)) in
        rw (← k.0, k.1) (rw (w.holds, z, append-nil))

-- n values of a kind, read over the first n places of a list
module _ {A : Type 0} (f : List ℕ → Read A) (bs : List ℕ) {k n : ℕ} (size : k ≡ n) where
  pub part_got : {xs : List A} {rest : List ℕ} → several f k bs ≡ got xs rest → several f n bs ≡ got (begun f n bs) rest
  part_got {xs} {rest} q = let e = several_read f k bs xs rest (sym q) in rw (← size) (rw e.1 q)

  pub part_refused : {e : ℕ} → several f k bs ≡ refuse e → several f n bs ≡ refuse e
  part_refused q = rw (← size) q

pub part_front : {A : Type 0} (xs d : List A) (n : ℕ) {out : List A} → out ≡ front xs (take n d) → length out ≡ n → n ≤ length d → out ++ drop n d ≡ front xs d
part_front xs d n {out} e l h =
    let few : length xs ≤ length (take n d) = omega (arith, length-take-le n d h, simp length-append at (sym (ap length e) ∙ l)) in
    rw e (append_assoc xs (drop (length xs) (take n d)) (drop n d)) ∙ ap (xs ++◌) (sym (drop-append-le (length xs) (take n d) (drop n d) few) ∙ ap (drop (length xs)) (take-append-drop n d))

pub ruleset gone = (go_start, go_more)

none_at_all : (k : ℕ) → begun read_number k [] ≡ []
unfolding read_number begun
none_at_all zero = refl
none_at_all (suc k) = begun_not read_number k (sym (none_yet 3))

-- no number stands behind the bytes, so nothing is stored
none_behind : (k from : ℕ) (bs : List ℕ) → length bs ≤ from → begun read_number k (drop from bs) ≡ []
none_behind k from bs h = rw (drop_of_length-le bs h) (none_at_all k)

pub none_stored : (k from : ℕ) (bs out : List ℕ) → length bs ≤ from → out ≡ front (begun read_number k (drop from bs)) out
none_stored k from bs out h = rw (none_behind k from bs h) refl

-- numbers that were read one after the other stand before what is left
pub numbers_parts : (k : ℕ) (bs xs rest : List ℕ) → several read_number k bs ≡ got xs rest → (p : List ℕ) × (bs ≡ p ++ rest)
unfolding several
numbers_parts zero bs xs rest e = ([], (got_both [] xs bs rest e).1)
numbers_parts (suc k) bs xs rest e =
    let s = several_first read_number k bs xs rest e in
    let f = number_front bs s.0 s.1 s.3 in
    let i = numbers_parts k s.1 s.2 rest s.4 in
    (f.bytes ++ i.0, f.parts ∙ ap (f.bytes ++◌) i.1 ∙ sym (append_assoc f.bytes i.0 rest))

-- so what is left starts where so many bytes were read
pub numbers_rest : (k : ℕ) (bs xs rest : List ℕ) → several read_number k bs ≡ got xs rest
    → (drop (length bs - length rest) bs ≡ rest) × (length rest ≤ length bs)
numbers_rest k bs xs rest e =
    let p = numbers_parts k bs xs rest e in
    let l : length bs ≡ length p.0 + length rest = ap length p.1 ∙ length-append p.0 rest in
    let z : length bs - length rest ≡ length p.0 = omega arith in
    (ap (λ (n : ℕ). drop n bs) z ∙ ap (drop (length p.0)) p.1 ∙ drop-append_seam p.0 rest, omega arith)
