-- Laws of arcs compared with a list of numbers, and stored in one, three numbers each. Assumes nothing.
use Prim.Native.Nat.{ℕ, ◌+◌, ◌*◌, ◌≤◌, ◌<◌}
use mathlib.Core.Path.{◌≡◌, refl, sym, ap, ◌∙◌}
use mathlib.Core.Bool.{Bool, true, false, not, ◌&&◌, true≢false}
use mathlib.Core.List.{List, [], ◌∷◌, ◌++◌, append_assoc}
use native.Mathlib.Omega.{arith}
use native.Mathlib.Numerals.{add-one}
use borrow.Author.Tests.{eqb-true, eq-eqb}
use lib.Dec.{eqb}
use lib.ListN.{length, get_or, set, take, length-append}
use lib.Seq.{take-suc, take_all, length-take-le}
use Rattle.lists.specs.Lists.{front}
use Rattle.lists.proofs.FrontLaws.{push_at}
use Rattle.walks.specs.declared.arc.Arc.{Arc}
use Rattle.walks.specs.Flat.{arcs_of, flat}
use Rattle.walks.specs.Graph.{no_arc}
use Rattle.walks.proofs.FlatLaws.{arcs_flat, flat_arcs, length_flat, flat_append, arcs_many, arc_at}

-- what `!=` of two arcs answers
module _ {x y : Arc} {r : Bool} (e : r ≡ not (eqb x.tail y.tail && (eqb x.head y.head && eqb x.weight y.weight))) where
  pub arc_same : r ≡ false → x ≡ y
  arc_same f =
      let t = three _ _ _ (sym e ∙ f) in
      rw (eqb-true x.tail y.tail t.0, eqb-true x.head y.head t.1, eqb-true x.weight y.weight t.2) refl
    where
      three : (a b c : Bool) → not (a && (b && c)) ≡ false → (a ≡ true) × (b ≡ true) × (c ≡ true)
      three true true true q = (refl, refl, refl)
      three true true false q = absurd (true≢false q)
      three true false c q = absurd (true≢false q)
      three false b c q = absurd (true≢false q)

  pub arc_differs : r ≡ true → x ≡ y → ⊥
  arc_differs t q =
      let a : eqb x.tail y.tail ≡ true = eq-eqb _ _ (ap (λ (z : Arc). z.tail) q) in
      let b : eqb x.head y.head ≡ true = eq-eqb _ _ (ap (λ (z : Arc). z.head) q) in
      let c : eqb x.weight y.weight ≡ true = eq-eqb _ _ (ap (λ (z : Arc). z.weight) q) in
      true≢false (sym t ∙ e ∙ rw (a, b, c) refl)

-- what is stored and what is in the list agree where they were and at the next arc
module _ (arcs : List Arc) (legs : List ℕ) (i : ℕ) (size : length legs ≡ 3 * length arcs) where
  abbrev pub leg_at : Arc
  leg_at = record { tail = get_or legs (i * 3) 0; head = get_or legs (i * 3 + 1) 0; weight = get_or legs (i * 3 + 2) 0 }

  at_leg : i < length arcs → get_or (arcs_of legs) i no_arc ≡ leg_at
  at_leg h = arc_at legs i (omega (arith, size))

  pub next_same : take i arcs ≡ take i (arcs_of legs) → i < length arcs → leg_at ≡ get_or arcs i no_arc → take (i + 1) arcs ≡ take (i + 1) (arcs_of legs)
  next_same same h e =
      ap (λ (k : ℕ). take k arcs) (add-one i) ∙ take-suc arcs i no_arc h ∙ ap (λ (ys : List Arc). ys ++ (get_or arcs i no_arc ∷ [])) same
      ∙ ap (λ (y : Arc). take i (arcs_of legs) ++ (y ∷ [])) (sym (at_leg h ∙ e))
      ∙ sym (take-suc (arcs_of legs) i no_arc (omega (arith, h, arcs_many legs (length arcs) size)))
      ∙ ap (λ (k : ℕ). take k (arcs_of legs)) (sym (add-one i))

  pub all_same : take i arcs ≡ take i (arcs_of legs) → length arcs ≤ i → legs ≡ flat arcs
  all_same same h =
      let m = arcs_many legs (length arcs) size in
      let e : arcs ≡ arcs_of legs = sym (take_all i arcs h) ∙ same ∙ take_all i (arcs_of legs) (omega (arith, h, m)) in
      sym (ap flat e ∙ flat_arcs legs (length arcs) size)

  pub same_at : i < length arcs → legs ≡ flat arcs → leg_at ≡ get_or arcs i no_arc
  same_at h e = sym (at_leg h) ∙ ap (λ (xs : List Arc). get_or xs i no_arc) (ap arcs_of e ∙ arcs_flat arcs)

-- lists of other lengths are not the same
pub other_length : (arcs : List Arc) (legs : List ℕ) → (length legs ≡ 3 * length arcs → ⊥) → legs ≡ flat arcs → ⊥
other_length arcs legs n e = n (ap length e ∙ length_flat arcs)

-- one arc more, stored behind those in front
module _ (arcs : List Arc) (d out : List ℕ) (i : ℕ) (e : out ≡ front (flat (take i arcs)) d) (h : i < length arcs) (room : 3 * length arcs ≤ length d) where
  pub leg_put : (x : Arc) → x ≡ get_or arcs i no_arc → set (set (set out (i * 3) x.tail) (i * 3 + 1) x.head) (i * 3 + 2) x.weight ≡ front (flat (take (i + 1) arcs)) d
  unfolding flat
  leg_put x a =
      let xs = flat (take i arcs) in
      let l : length xs ≡ i * 3 = length_flat (take i arcs) ∙ ap (λ (k : ℕ). 3 * k) (length-take-le i arcs (omega (arith, h))) ∙ omega arith in
      let one = push_at xs d out (i * 3) x.tail e l (omega (arith, h, room)) in
      let two = push_at (xs ++ (x.tail ∷ [])) d _ (i * 3 + 1) x.head one (length-append xs _ ∙ omega (arith, l)) (omega (arith, h, room)) in
      let more : length ((xs ++ (x.tail ∷ [])) ++ (x.head ∷ [])) ≡ i * 3 + 2 =
      length-append (xs ++ (x.tail ∷ [])) (x.head ∷ []) ∙ omega (arith, l, length-append xs (x.tail ∷ [])) in
      let three = push_at ((xs ++ (x.tail ∷ [])) ++ (x.head ∷ [])) d _ (i * 3 + 2) x.weight two more (omega (arith, h, room)) in
      let t : flat (take (i + 1) arcs) ≡ ((xs ++ (x.tail ∷ [])) ++ (x.head ∷ [])) ++ (x.weight ∷ []) =
      ap (λ (k : ℕ). flat (take k arcs)) (add-one i) ∙ ap flat (take-suc arcs i no_arc h ∙ ap (λ (y : Arc). take i arcs ++ (y ∷ [])) (sym a))
      ∙ flat_append (take i arcs) (x ∷ []) ∙ sym (append_assoc xs (x.tail ∷ []) (x.head ∷ x.weight ∷ []))
      ∙ sym (append_assoc (xs ++ (x.tail ∷ [])) (x.head ∷ []) (x.weight ∷ [])) in
      three ∙ ap (λ (ys : List ℕ). front ys d) (sym t)

pub all_put : (arcs : List Arc) (d out : List ℕ) (i : ℕ) → out ≡ front (flat (take i arcs)) d → length arcs ≤ i → out ≡ front (flat arcs) d
all_put arcs d out i e h = e ∙ ap (λ (xs : List Arc). front (flat xs) d) (take_all i arcs h)
