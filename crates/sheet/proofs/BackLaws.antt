-- What is written reads back, judged: given the numbers of a value in shortest form, its reader gives the value, or refuses with its first fault. Number
-- by number (`number_back`), and then for several of a kind, for any reader; arcs, marks and service minutes are uses of it. Assumes nothing.
use Prim.Native.Nat.{ℕ, zero, suc, ◌*◌, ◌<◌}
use mathlib.Core.Path.{◌≡◌, refl, ap, ◌∙◌}
use mathlib.Core.Bool.{Bool, true, false}
use mathlib.Core.List.{List, [], ◌∷◌, ◌++◌, append_assoc}
use lib.ListN.{length}
use Rattle.lists.specs.Lists.{pick}
use Rattle.lists.proofs.Pigeonhole.{Below, below_parts}
use Rattle.lists.proofs.RowLaws.{Rows, just, just_rows}
use Rattle.varint.proofs.VarintLaws.{number_back}
use Rattle.varint.specs.Varint.{Read, got, refuse, after, judged, number, several, write_numbers}
use Rattle.walks.specs.declared.arc.Arc.{Arc}
use Rattle.walks.proofs.FlatLaws.{flat_arcs, arcs_many}
use Rattle.walks.specs.Flat.{arcs_of, flat}
use Rattle.sheet.specs.Reader.{is_node_count, is_arc_count, is_node, is_other, is_limit, is_minutes, header_limit, header_target, header_source, header_arcs, read_header, arc_minutes, arc_head, read_arc}
use Rattle.sheet.specs.Draft.{header_numbers}
use Rattle.sheet.specs.Writer.{fault, first_of, header_fault, arc_fault, arcs_fault, each_fault}

-- what a fault makes of a reading: 0 leaves it as it is
unfoldable pub faulted : {A : Type 0} → ℕ → Read A → Read A
faulted zero r = r
faulted (suc e) r = refuse (suc e)

faulted_first : {A : Type 0} (a b : ℕ) (r : Read A) → faulted a (faulted b r) ≡ faulted (first_of a b) r
unfolding first_of faulted
faulted_first zero b r = refl
faulted_first (suc a) b r = refl

after_faulted : {A C : Type 0} (e : ℕ) (a : A) (bs : List ℕ) (h : A → List ℕ → Read C) → after (faulted e (got a bs)) h ≡ faulted e (h a bs)
unfolding after faulted
after_faulted zero a bs h = refl
after_faulted (suc e) a bs h = refl

-- a part, and what is read behind it
module _ {A C : Type 0} {r : Read A} (e : ℕ) (a : A) (bs : List ℕ) (p : r ≡ faulted e (got a bs)) (h : A → List ℕ → Read C) where
  pub then_last : after r h ≡ faulted e (h a bs)
  then_last = ap (λ (r : Read A). after r h) p ∙ after_faulted e a bs h

  pub then_more : (b : ℕ) (c : Read C) → h a bs ≡ faulted b c → after r h ≡ faulted (first_of e b) c
  then_more b c q = then_last ∙ ap (faulted e) q ∙ faulted_first e b c

-- f reads the numbers that g has for a value, and F is the value's fault
abbrev pub Back : {A : Type 0} → (List ℕ → Read A) → (A → List ℕ) → (A → ℕ) → Type 0
Back {A} f g F = (a : A) (xs : List ℕ) → Below 268435456 (g a) → f (write_numbers (g a ++ xs)) ≡ faulted (F a) (got a (write_numbers xs))

-- the numbers of an arc
abbrev pub arc_numbers : Arc → List ℕ
arc_numbers x = x.tail ∷ x.head ∷ x.weight ∷ []

number_judged : (e : ℕ) (ok : ℕ → Bool) → Back (number (suc e) ok) just (λ x. fault (suc e) (ok x))
unfolding number judged after write_numbers fault faulted
number_judged e ok x xs B = rw (number_back x (write_numbers xs) B.0) (go (ok x))
  where
    go : (t : Bool) → pick t (got x (write_numbers xs)) (refuse (suc e)) ≡ faulted (pick t 0 (suc e)) (got x (write_numbers xs))
    go true = refl
    go false = refl

-- a number and what is read behind it
module _ {C : Type 0} (e : ℕ) (ok : ℕ → Bool) (x : ℕ) (xs : List ℕ) (l : x < 268435456) (h : ℕ → List ℕ → Read C) where
  number_last : after (number (suc e) ok (write_numbers (x ∷ xs))) h ≡ faulted (fault (suc e) (ok x)) (h x (write_numbers xs))
  number_last = then_last (fault (suc e) (ok x)) x (write_numbers xs) (number_judged e ok x xs (l, tt)) h

  number_more : (b : ℕ) (r : Read C) → h x (write_numbers xs) ≡ faulted b r
      → after (number (suc e) ok (write_numbers (x ∷ xs))) h ≡ faulted (first_of (fault (suc e) (ok x)) b) r
  number_more = then_more (fault (suc e) (ok x)) x (write_numbers xs) (number_judged e ok x xs (l, tt)) h

pub header_back : Back read_header header_numbers header_fault
unfolding read_header header_arcs header_source header_target header_limit header_numbers header_fault
header_back h xs B =
    number_more 4 is_node_count _ _ B.0 header_arcs _ _
    (number_more 5 is_arc_count _ _ B.1.0 (header_source h.nodes) _ _
    (number_more 6 (is_node h.nodes) _ _ B.1.1.0 (header_target h.nodes h.arcs) _ _
    (number_more 6 (is_other h.nodes h.source) _ _ B.1.1.1.0 (header_limit h.nodes h.arcs h.source) _ _
    (number_last 7 is_limit _ _ B.1.1.1.1.0 _))))

arc_back : (n : ℕ) → Back (read_arc n) arc_numbers (λ x. arc_fault n x.tail x.head x.weight)
unfolding read_arc arc_head arc_minutes arc_fault
arc_back n x xs B =
    number_more 8 (is_node n) _ _ B.0 (arc_head n) _ _
    (number_more 8 (is_other n x.tail) _ _ B.1.0 (arc_minutes x.tail) _ _ (number_last 9 is_minutes _ _ B.1.1.0 _))

-- several of a kind: the first fault among them
unfoldable faults : {A : Type 0} → (A → ℕ) → List A → ℕ
faults F [] = 0
faults F (a ∷ xs) = first_of (F a) (faults F xs)

several_back : {A : Type 0} (f : List ℕ → Read A) (g : A → List ℕ) (F : A → ℕ) (row : List A → List ℕ) → Back f g F → Rows g row
    → (xs : List A) (t : List ℕ) → Below 268435456 (row xs)
    → several f (length xs) (write_numbers (row xs ++ t)) ≡ faulted (faults F xs) (got xs (write_numbers t))
unfolding several faults faulted
several_back f g F row back R [] t B = rw R.empty
several_back f g F row back R (a ∷ xs) t B =
    let e = R.first a xs in
    let b = below_parts 268435456 (g a) (row xs) (rw e at B) in
    let p : row (a ∷ xs) ++ t ≡ g a ++ (row xs ++ t) = ap (◌++ t) e ∙ append_assoc (g a) (row xs) t in
    ap (λ (ys : List ℕ). several f (suc (length xs)) (write_numbers ys)) p
    ∙ then_more (F a) a (write_numbers (row xs ++ t)) (back a (row xs ++ t) b.0)
    (λ a bs₁. after (several f (length xs) bs₁) (λ xs bs₂. got (a ∷ xs) bs₂)) (faults F xs) _
    (then_last (faults F xs) xs (write_numbers t) (several_back f g F row back R xs t b.1) (λ xs bs₂. got (a ∷ xs) bs₂))

-- the arcs' numbers are the arcs in a row
pub flat_rows : Rows arc_numbers flat
unfolding flat
flat_rows = record { empty = refl; first = λ x xs. refl }

arcs_faults : (n : ℕ) (xs : List ℕ) → faults (λ x. arc_fault n x.tail x.head x.weight) (arcs_of xs) ≡ arcs_fault n xs
unfolding faults arcs_of arcs_fault
arcs_faults n [] = refl
arcs_faults n (t ∷ []) = refl
arcs_faults n (t ∷ h ∷ []) = refl
arcs_faults n (t ∷ h ∷ w ∷ xs) = ap (first_of (arc_fault n t h w)) (arcs_faults n xs)

each_faults : (ok : ℕ → Bool) (xs : List ℕ) → faults (λ x. fault 11 (ok x)) xs ≡ each_fault ok xs
unfolding faults each_fault
each_faults ok [] = refl
each_faults ok (x ∷ xs) = ap (first_of (fault 11 (ok x))) (each_faults ok xs)

pub arcs_back : (n m : ℕ) (xs t : List ℕ) → length xs ≡ 3 * m → Below 268435456 xs
    → several (read_arc n) m (write_numbers (xs ++ t)) ≡ faulted (arcs_fault n xs) (got (arcs_of xs) (write_numbers t))
arcs_back n m xs t e B =
    let f : flat (arcs_of xs) ≡ xs = flat_arcs xs m e in
    rw (arcs_many xs m e, f, arcs_faults n xs) at (several_back (read_arc n) arc_numbers _ flat (arc_back n) flat_rows (arcs_of xs) t (rw f B))

-- numbers that are judged one by one: the marks, and the service minutes
pub each_back : (ok : ℕ → Bool) (xs t : List ℕ) → Below 268435456 xs
    → several (number 11 ok) (length xs) (write_numbers (xs ++ t)) ≡ faulted (each_fault ok xs) (got xs (write_numbers t))
each_back ok xs t B = rw (each_faults ok xs) at (several_back (number 11 ok) just _ (λ (xs : List ℕ). xs) (number_judged 10 ok) just_rows xs t B)
