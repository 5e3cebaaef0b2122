-- Laws of the forced nodes and the required items: the ends of mandatory arcs, marked from the last arc to the first, and the list of the items that
-- pass the test.
-- Assumes nothing.
use Prim.Native.Nat.{ℕ, suc, ◌+◌, ◌-◌, ◌≤◌, ◌<◌}
use mathlib.Core.Path.{◌≡◌, refl, ap, sym, ◌∙◌}
use mathlib.Core.List.{List, [], ◌∷◌, ◌++◌, append_assoc, append-nil}
use mathlib.Core.Bool.{Bool, true, false, not, ◌&&◌, ◌||◌}
use native.Mathlib.Omega.{arith}
use native.Mathlib.Numerals.{add-one}
use lib.Dec.{eqb, ltb}
use Rattle.std.specs.List.{fold}
use lib.ListN.{length, get_or, set, take, replicate, get_or-eq_default, get_or-replicate, length-append, length-set, length-take}
use Rattle.std.proofs.lemmas.Grind.{get_or_default_zero}
use lib.Seq.{get_or-set_same, get_or-set_other, set_out, take_all, take-nil, take-append-le}
use borrow.Author.Tests.{eqb-true, eqb-false, eq-eqb, ne_eqb, ltb-true, ltb-false, lt-ltb}
use Rattle.lists.specs.Lists.{front, member, add, keep, span}
use Rattle.lists.proofs.MemberLaws.{member_away}
use Rattle.lists.proofs.FrontLaws.{length_front, push}
use Rattle.walks.specs.declared.arc.Arc.{Arc}
use Rattle.walks.specs.Graph.{no_arc, tail_of, head_of, arc_item}
use Rattle.sheet.specs.declared.Header.{Header}
use Rattle.sheet.proofs.MarkLaws.{arc_free, unmarked}
use Rattle.sheet.specs.Sheet.{Sheet, mark_of, is_mandatory, is_forced, ends_mandatory, all_arcs, is_required, required, sheet_of, Sized}
use Rattle.sheet_required.specs.Whole.{ForcedNodes, RoomListed}

-- a mark that is set at i, seen from p
set_one : (xs : List Bool) (i p : ℕ) → p < length xs → get_or (set xs i true) p false ≡ (eqb i p || get_or xs p false)
set_one xs i p h = go (eqb i p) refl
  where
    go : (t : Bool) → eqb i p ≡ t → get_or (set xs i true) p false ≡ (t || get_or xs p false)
    go true e = let q : i ≡ p = eqb-true i p e in rw (q, get_or-set_same xs p true false h)
    go false e = get_or-set_other xs i p true false (λ q. eqb-false i p e (sym q))

-- two of them
two_set : (xs : List Bool) (i k p : ℕ) → p < length xs → get_or (set (set xs i true) k true) p false ≡ (eqb k p || (eqb i p || get_or xs p false))
two_set xs i k p h = set_one (set xs i true) k p (rw length-set h) ∙ ap (λ (b : Bool). eqb k p || b) (set_one xs i p h)

eqb_sym : (a b : ℕ) → eqb a b ≡ eqb b a
eqb_sym a b = go (eqb a b) refl
  where
    go : (t : Bool) → eqb a b ≡ t → t ≡ eqb b a
    go true e = sym (eq-eqb b a (sym (eqb-true a b e)))
    go false e = sym (ne_eqb b a (λ q. eqb-false a b e (sym q)))

none_or : (a : Bool) → (a || false) ≡ a
none_or true = refl
none_or false = refl

module _ (h : Header) (xs : List Arc) (ms : List ℕ) where
  abbrev S : Sheet
  S = sheet_of h xs ms

  -- the arcs before j were looked at, and those from j on are still to be
  pub record Ending (j : ℕ) (forced : List Bool) : Type 0 where
    pub few : j ≤ h.arcs
    pub size : length forced ≡ 64
    pub each : (p : ℕ) → p < 64 → ends_mandatory S p (span h.arcs 0) ≡ (get_or forced p false || ends_mandatory S p (span (h.arcs - j) j))

  pub no_ends : Ending 0 (replicate 64 false)
  no_ends = record {
    few = omega arith;
    size = refl;
    each = λ p l. let e : h.arcs - 0 ≡ h.arcs = omega arith in rw (get_or-replicate {A = Bool} 64 p false false l, e);
  }

  module _ (sized : Sized h xs ms) {j : ℕ} {forced : List Bool} (w : Ending j forced) (l : j < h.arcs) where
    spanned : span (h.arcs - j) j ≡ j ∷ span (h.arcs - (j + 1)) (j + 1)
    unfolding span
    spanned = let e : h.arcs - j ≡ suc (h.arcs - (j + 1)) = omega arith in rw (e, span, add-one j)

    pub end_more : is_mandatory S (arc_item S.graph j) ≡ true → Ending (j + 1) (set (set forced (get_or xs j no_arc).tail true) (get_or xs j no_arc).head true)
    unfolding ends_mandatory tail_of head_of
    end_more m =
        record {
          few = omega arith;
          size = simp length-set w.size;
          each = λ p b. w.each p b
              ∙ rw (spanned, m, two_set forced (get_or xs j no_arc).tail (get_or xs j no_arc).head p (omega (arith, w.size)))
              (either (get_or forced p false) (eqb (get_or xs j no_arc).tail p) (eqb (get_or xs j no_arc).head p) _);
        }
      where
        either : (d a b r : Bool) → (d || ((a || b) || r)) ≡ ((b || (a || d)) || r)
        either true true true r = refl
        either true true false r = refl
        either true false true r = refl
        either true false false r = refl
        either false true true r = refl
        either false true false r = refl
        either false false true r = refl
        either false false false r = refl

    pub end_pass : is_mandatory S (arc_item S.graph j) ≡ false → Ending (j + 1) forced
    unfolding ends_mandatory
    end_pass m = record { few = omega arith; size = w.size; each = λ p b. w.each p b ∙ rw (spanned, m) }

  -- source and target are put in
  pub all_ends : Sized h xs ms → {j : ℕ} {ends : List Bool} → Ending j ends → h.arcs ≤ j → ForcedNodes S (set (set ends h.source true) h.target true)
  unfolding all_arcs ends_mandatory span
  all_ends sized {j} {ends} w l = record {
    size = simp length-set w.size;
    each = λ p q.
        two_set ends h.source h.target p (omega (arith, w.size))
        ∙ rw (found p q, eqb_sym h.source p, eqb_sym h.target p) (turned (eqb p h.source) (eqb p h.target) (ends_mandatory S p (all_arcs S.graph)));
  }
    where
      found : (p : ℕ) → p < 64 → get_or ends p false ≡ ends_mandatory S p (all_arcs S.graph)
      found p q =
          let z : h.arcs - j ≡ 0 = omega arith in
          sym (rw sized.0 (w.each p q ∙ rw z (none_or (get_or ends p false))))

      turned : (a b c : Bool) → (b || (a || c)) ≡ (a || (b || c))
      turned true true c = refl
      turned true false c = refl
      turned false true c = refl
      turned false false c = refl

-- a node is forced exactly where its mark says so
pub forced_one : (S : Sheet) {forced : List Bool} → ForcedNodes S forced → S.graph.nodes ≤ 64 → (p : ℕ) → p < S.graph.nodes → get_or forced p false ≡ is_forced S p
unfolding is_forced
forced_one S w few p h = rw (lt-ltb p S.graph.nodes h) (w.each p (omega arith))

-- a mark that was read says whether the item is mandatory
pub mark_told : (S : Sheet) (i : ℕ) {m : ℕ} → m ≡ get_or S.marks i m → i < length S.marks → is_mandatory S i ≡ eqb m 1
unfolding is_mandatory mark_of
mark_told S i {m} e l = ap (λ (x : ℕ). eqb x 1) (sym (get_or_default_zero S.marks i m l) ∙ sym e)

-- the test of an item, by its mark and the forced nodes
pub required_by : (S : Sheet) {forced : List Bool} → ForcedNodes S forced → S.graph.nodes ≤ 64 → (i : ℕ) {b : Bool} → b ≡ is_mandatory S i
    → (b && not (ltb i S.graph.nodes && get_or forced i false)) ≡ is_required S i
unfolding is_required
required_by S {forced} w few i e = rw e (ap (λ (b : Bool). is_mandatory S i && not b) (go (ltb i S.graph.nodes) refl))
  where
    go : (t : Bool) → ltb i S.graph.nodes ≡ t → (t && get_or forced i false) ≡ is_forced S i
    go true e = forced_one S w few i (ltb-true i S.graph.nodes e)
    go false e = sym (arc_free S i (ltb-false i S.graph.nodes e))

-- the numbers below p that pass the test were written over the front of `old`, as far as it has room
pub record Listing (f : ℕ → Bool) (n : ℕ) (old out : List ℕ) (count p : ℕ) : Type 0 where
  pub xs : List ℕ
  pub few : p ≤ n
  pub size : length xs ≡ count
  pub small : count ≤ p
  pub holds : out ≡ front (take (length old) xs) old
  pub same : keep f (span n 0) ≡ xs ++ keep f (span (n - p) p)

pub listing : (f : ℕ → Bool) (n : ℕ) (old : List ℕ) → Listing f n old old 0 0
listing f n old =
    let e : n - 0 ≡ n = omega arith in
    record { xs = []; few = omega arith; size = refl; small = omega arith; holds = rw (take-nil {A = ℕ} (length old)); same = rw e }

room_kept : (xs old : List ℕ) → length (front (take (length old) xs) old) ≡ length old
room_kept xs old = length_front (take (length old) xs) old (simp length-take (omega arith))

-- one more is stored behind the others where there is room, and else nothing changes
room_more : (xs old : List ℕ) (x : ℕ) → set (front (take (length old) xs) old) (length xs) x ≡ front (take (length old) (xs ++ (x ∷ []))) old
room_more xs old x = go (ltb (length xs) (length old)) refl
  where
    go : (t : Bool) → ltb (length xs) (length old) ≡ t → set (front (take (length old) xs) old) (length xs) x ≡ front (take (length old) (xs ++ (x ∷ []))) old
    go true e =
        let l = ltb-true (length xs) (length old) e in
        let a : take (length old) xs ≡ xs = take_all (length old) xs (omega arith) in
        let b : take (length old) (xs ++ (x ∷ [])) ≡ xs ++ (x ∷ []) = take_all (length old) (xs ++ (x ∷ [])) (simp length-append (omega arith)) in
        rw (a, b) (push xs old x l)
    go false e =
        let l = ltb-false (length xs) (length old) e in
        rw (take-append-le (length old) xs (x ∷ []) l) (set_out _ _ _ (rw (room_kept xs old) l))

module _ {f : ℕ → Bool} {n : ℕ} {old out : List ℕ} {count p : ℕ} (w : Listing f n old out count p) where
  pub listed_size : length out ≡ length old
  listed_size = ap length w.holds ∙ room_kept w.xs old

  keep_next : p < n → {b : Bool} → f p ≡ b → keep f (span (n - p) p) ≡ add b p (keep f (span (n - (p + 1)) (p + 1)))
  unfolding keep span
  keep_next l e = let k : n - p ≡ suc (n - (p + 1)) = omega arith in rw (k, span, keep, e, add-one p)

  pub list_more : p < n → f p ≡ true → Listing f n old (set out count p) (count + 1) (p + 1)
  unfolding add
  list_more l e =
      record {
        xs = w.xs ++ (p ∷ []);
        few = omega arith;
        size = simp length-append (omega (arith, w.size));
        small = omega (arith, w.small);
        holds = rw (w.holds, ← w.size) (room_more w.xs old p);
        same = w.same ∙ rw (keep_next l e) (sym (append_assoc w.xs (p ∷ []) _));
      }

  pub list_pass : p < n → f p ≡ false → Listing f n old out count (p + 1)
  unfolding add
  list_pass l e =
      record {
        xs = w.xs;
        few = omega arith;
        size = w.size;
        small = omega (arith, w.small);
        holds = w.holds;
        same = w.same ∙ rw (keep_next l e);
      }

  pub listed : n ≤ p → RoomListed (keep f (span n 0)) old out count
  unfolding keep span
  listed l =
      let k : n - p ≡ 0 = omega arith in
      let e : keep f (span n 0) ≡ w.xs = w.same ∙ rw k (append-nil w.xs) in
      rw e (record { counted = sym w.size; written = w.holds })

-- a fold over the marks finds a mandatory one
folded : (some : Bool) (xs : List ℕ) → fold (λ some m. some || eqb m 1) some xs ≡ (some || member 1 xs)
unfolding member
folded some [] = sym (none_or some)
folded some (x ∷ xs) = folded (some || eqb x 1) xs ∙ rw (eqb_sym x 1) (or_assoc some (eqb 1 x) (member 1 xs))
  where
    or_assoc : (a b c : Bool) → ((a || b) || c) ≡ (a || (b || c))
    or_assoc true b c = refl
    or_assoc false b c = refl

-- with no mark of 1 nothing is required
pub none_required : (S : Sheet) (list : List ℕ) → fold (λ some m. some || eqb m 1) false S.marks ≡ false → RoomListed (required S) list list 0
unfolding is_mandatory mark_of
none_required S list e =
    let z : required S ≡ [] = unmarked S (λ i. ne_eqb (get_or S.marks i 0) 1 (λ q. never i q)) in
    rw z (record { counted = refl; written = rw (take-nil {A = ℕ} (length list)) })
  where
    never : (i : ℕ) → get_or S.marks i 0 ≡ 1 → ⊥
    never i q = go (ltb i (length S.marks)) refl
      where
        go : (t : Bool) → ltb i (length S.marks) ≡ t → ⊥
        go true l = member_away 1 S.marks (sym (folded false S.marks) ∙ e) i (ltb-true i (length S.marks) l) q
        go false l = omega (arith, q, get_or-eq_default S.marks 0 (ltb-false i (length S.marks) l))
