-- Laws of the arc view: the bytes after so many numbers, as they are passed over, the part between two positions, and where it stands. Assumes nothing.
use Prim.Native.Nat.{ℕ, zero, suc, ◌+◌, ◌-◌, ◌*◌, ◌≤◌, ◌<◌}
use mathlib.Core.Path.{◌≡◌, refl, ap, sym, ◌∙◌}
use mathlib.Core.List.{List, [], ◌∷◌, ◌++◌, append_assoc, append-nil}
use mathlib.Core.Bool.{Bool}
use native.Mathlib.Omega.{arith}
use lib.Dec.{ltb}
use lib.ListN.{length, take, drop, length-append}
use borrow.Author.Tests.{lt-ltb, le-ltb}
use Rattle.std.specs.Prelude.{Ok}
use Rattle.std.proofs.Math.Seq.{drop-append_seam}
use Rattle.lists.specs.Lists.{pick}
use Rattle.varint.proofs.VarintLaws.{number_front}
use Rattle.varint.specs.Varint.{Read, got, refuse, after, read_groups, read_number, several}
use Rattle.sheet.specs.Sheet.{Sheet, header_of}
use Rattle.sheet.specs.Reader.{rest_of, past, lead, content, taken}
use Rattle.sheet.specs.ArcView.{bytes_of, for_arc, arc_view, place_of}
use Rattle.sheet.specs.declared.Header.{Header}
use Rattle.sheet_reader.specs.Answer.{answered}

-- what is left after several values
abbrev rest_all : {A : Type 0} → Read A → List ℕ
rest_all (got a bs) = bs
rest_all (refuse e) = []

past_none : (k : ℕ) → past k [] ≡ []
unfolding past rest_of read_number read_groups
past_none zero = refl
past_none (suc k) = past_none k

rest_more : (a : ℕ) (r : Read (List ℕ)) → rest_all r ≡ rest_all (after r (λ xs bs. got (a ∷ xs) bs))
unfolding after
rest_more a (got xs bs) = refl
rest_more a (refuse e) = refl

past_first :
    (k : ℕ) (g : List ℕ → Read (List ℕ)) (r : Read ℕ) → ((bs : List ℕ) → past k bs ≡ rest_all (g bs))
    → past k (rest_of r) ≡ rest_all (after r (λ a bs. after (g bs) (λ xs end. got (a ∷ xs) end)))
unfolding after rest_of
past_first k g (got a bs) f = f bs ∙ rest_more a (g bs)
past_first k g (refuse e) f = past_none k

past_several : (k : ℕ) (bs : List ℕ) → past k bs ≡ rest_all (several read_number k bs)
unfolding past several
past_several zero bs = refl
past_several (suc k) bs = past_first k (several read_number k) (read_number bs) (past_several k)

past_is : (k : ℕ) (bs : List ℕ) {r : Read (List ℕ)} → several read_number k bs ≡ r → past k bs ≡ rest_all r
past_is k bs e = past_several k bs ∙ ap rest_all e

module _ (k : ℕ) (bs : List ℕ) where
  pub past_read : {xs rest : List ℕ} → several read_number k bs ≡ got xs rest → rest ≡ past k bs
  past_read e = sym (past_is k bs e)

  pub past_refused : {e : ℕ} → several read_number k bs ≡ refuse e → [] ≡ past k bs
  past_refused e = sym (past_is k bs e)

-- r is an end of s
pub record End (s r : List ℕ) : Type 0 where
  pub front : List ℕ
  pub parts : s ≡ front ++ r

end_all : (s : List ℕ) → End s s
end_all s = record { front = []; parts = refl }

end_of : {s r q : List ℕ} → End s r → End r q → End s q
end_of {s} {r} {q} a b = record { front = a.front ++ b.front; parts = a.parts ∙ ap (a.front ++◌) b.parts ∙ sym (append_assoc a.front b.front q) }

-- what is left of some bytes is their end
end_rest : (bs : List ℕ) → End bs (rest_of (read_number bs))
unfolding rest_of
end_rest bs = go (read_number bs) refl
  where
    go : (r : Read ℕ) → read_number bs ≡ r → End bs (rest_of r)
    go (got x rest) e = let f = number_front bs x rest e in record { front = f.bytes; parts = f.parts }
    go (refuse e) q = record { front = bs; parts = sym (append-nil bs) }

end_past : (k : ℕ) (bs : List ℕ) → End bs (past k bs)
unfolding past
end_past zero bs = end_all bs
end_past (suc k) bs = end_of (end_rest bs) (end_past k (rest_of (read_number bs)))

module _ {s r : List ℕ} (e : End s r) where
  end_size : length e.front + length r ≡ length s
  end_size = sym (ap length e.parts ∙ length-append e.front r)

  pub shorter : length r ≤ length s
  shorter = omega (arith, end_size)

  end_at : drop (length s - length r) s ≡ r
  end_at =
      let n : length s - length r ≡ length e.front = omega (arith, end_size) in
      rw n (ap (drop (length e.front)) e.parts ∙ drop-append_seam e.front r)

-- what is there for an arc that the answer does not have, and for one that it has
module _ {A : Type 0} (l : ℕ) (x y : A) where
  not_taken : (r : Read Sheet) {e : ℕ} → r ≡ refuse e → for_arc r l x y ≡ y
  unfolding for_arc
  not_taken r q = rw q

  taken_has : (r : Read Sheet) {h : Header} → answered r ≡ Ok h → for_arc r l x y ≡ pick (ltb l h.arcs) x y
  unfolding answered for_arc header_of
  taken_has (got S rest) {h} q =
      let z : header_of S ≡ h = cc in
      let n : length S.graph.arcs ≡ h.arcs = ap (λ (x : Header). x.arcs) z in
      ap (λ (i : ℕ). pick (ltb l i) x y) n
  taken_has (refuse e) q = absurd (let z : ◌≡◌ {A = ℕ} 0 1 = cc in omega arith)

  module _ (r : Read Sheet) {h : Header} (q : answered r ≡ Ok h) where
    arc_there : l < h.arcs → for_arc r l x y ≡ x
    arc_there n = taken_has r q ∙ ap (λ (t : Bool). pick t x y) (lt-ltb l h.arcs n)

    no_arc : h.arcs ≤ l → for_arc r l x y ≡ y
    no_arc n = taken_has r q ∙ ap (λ (t : Bool). pick t x y) (le-ltb l h.arcs n)

-- the view's place and bytes, for each way in which `arc_view` ends; `base` is where the sheet itself stands
module _ (s : List ℕ) (l base : ℕ) where
  abbrev pub Here : ℕ → List ℕ → Type 0
  Here place view = (place + base ≡ place_of s l + base) × (view ≡ arc_view s l)

  here : {place : ℕ} {view : List ℕ} → place_of s l ≡ place → arc_view s l ≡ view → Here place view
  here a b = (ap (◌+ base) (sym a), sym b)

  pub view_refused : {e : ℕ} → taken s ≡ refuse e → Here 0 []
  unfolding arc_view place_of
  view_refused q = here (not_taken l _ _ (taken s) q) (not_taken l _ _ (taken s) q)

  module _ {h : Header} (q : answered (taken s) ≡ Ok h) where
    pub view_none : h.arcs ≤ l → Here 0 []
    unfolding arc_view place_of
    view_none n = here (no_arc l _ _ (taken s) q n) (no_arc l _ _ (taken s) q n)

    module _ {cs from behind : List ℕ} (c : cs ≡ content s) (f : from ≡ past (5 + 3 * l) cs) (b : behind ≡ past 3 from) where
      ends_from : End s from
      unfolding content
      ends_from = rw (f, c) (end_of (end_past (lead s) s) (end_past (5 + 3 * l) (content s)))

      ends_behind : End from behind
      ends_behind = rw b (end_past 3 from)

      pub in_order : (length behind ≤ length from) × (length from ≤ length s)
      in_order = (shorter ends_behind, shorter ends_from)

      pub view_part : l < h.arcs → Here (length s - length from) (take (length s - length behind - (length s - length from)) (drop (length s - length from) s))
      unfolding arc_view place_of bytes_of
      view_part n =
          let g : past (5 + 3 * l) (content s) ≡ from = sym (f ∙ ap (past (5 + 3 * l)) c) in
          let m : length s - length behind - (length s - length from) ≡ length from - length behind = omega (arith, in_order.0, in_order.1) in
          let d : drop (length s - length from) s ≡ from = end_at ends_from in
          here (arc_there l _ _ (taken s) q n ∙ rw g) (arc_there l _ _ (taken s) q n ∙ rw (g, m, d, b))
