-- What a page means beside what it says: the same nodes, tails and heads, so the same walks and the same required items; and a walk's length is its minutes and
-- the service minutes of every node that it touches but the first (`len_served`). Assumes nothing.
use Prim.Native.Nat.{ℕ, zero, suc, ◌+◌, ◌<◌}
use mathlib.Core.Path.{◌≡◌, refl, ap, ◌∙◌, fun_ext}
use mathlib.Core.Bool.{Bool, true, not, ◌&&◌}
use mathlib.Core.List.{List, [], ◌∷◌}
use native.Mathlib.Omega.{arith}
use lib.ListN.{length, get_or, drop}
use lib.Dec.{eqb, ltb}
use borrow.Author.Tests.{eqb-true, ltb-true}
use Rattle.lists.proofs.TestLaws.{and_true}
use Rattle.lists.specs.Lists.{every, keep, span}
use Rattle.walks.specs.declared.arc.Arc.{Arc}
use Rattle.walks.specs.Graph.{no_arc, tail_of, head_of, weight_of, arc_item, chain, touched, len}
use Rattle.sheet.specs.Lent.{zeros}
use Rattle.sheet.specs.Page.{service_of, served_arc, served, Page, sheet_on, no_service, service_over}
use Rattle.sheet.specs.Sheet.{Sheet, is_mandatory, mark_of, all_items, all_arcs, ends_mandatory, is_forced, is_required, required}

-- the arcs one by one
pub served_count : (ss : List ℕ) (xs : List Arc) → length (served ss xs) ≡ length xs
unfolding served
served_count ss [] = refl
served_count ss (x ∷ xs) = ap suc (served_count ss xs)

served_tail : (ss : List ℕ) (xs : List Arc) (l : ℕ) → (get_or (served ss xs) l no_arc).tail ≡ (get_or xs l no_arc).tail
unfolding served served_arc
served_tail ss [] l = refl
served_tail ss (x ∷ xs) zero = refl
served_tail ss (x ∷ xs) (suc l) = served_tail ss xs l

served_head : (ss : List ℕ) (xs : List Arc) (l : ℕ) → (get_or (served ss xs) l no_arc).head ≡ (get_or xs l no_arc).head
unfolding served served_arc
served_head ss [] l = refl
served_head ss (x ∷ xs) zero = refl
served_head ss (x ∷ xs) (suc l) = served_head ss xs l

served_weight : (ss : List ℕ) (xs : List Arc) (l : ℕ) → l < length xs
    → (get_or (served ss xs) l no_arc).weight ≡ (get_or xs l no_arc).weight + service_of ss (get_or xs l no_arc).head
unfolding served served_arc
served_weight ss [] l h = absurd (omega arith)
served_weight ss (x ∷ xs) zero h = refl
served_weight ss (x ∷ xs) (suc l) h = served_weight ss xs l (omega arith)

module _ (P : Page) where
  pub count_on : length (sheet_on P).graph.arcs ≡ length P.says.graph.arcs
  unfolding sheet_on
  count_on = served_count P.services P.says.graph.arcs

  pub tail_on : (l : ℕ) → tail_of (sheet_on P).graph l ≡ tail_of P.says.graph l
  unfolding sheet_on tail_of
  tail_on = served_tail P.services P.says.graph.arcs

  pub head_on : (l : ℕ) → head_of (sheet_on P).graph l ≡ head_of P.says.graph l
  unfolding sheet_on head_of
  head_on = served_head P.services P.says.graph.arcs

  pub weight_on : (l : ℕ) → l < length P.says.graph.arcs
      → weight_of (sheet_on P).graph l ≡ weight_of P.says.graph l + service_of P.services (head_of P.says.graph l)
  unfolding sheet_on weight_of head_of
  weight_on = served_weight P.services P.says.graph.arcs

  -- A walk's length is the minutes of its arcs and the service minutes of every node that it touches but the first, each as often as it is touched.
  pub len_served : (a b : ℕ) (w : List ℕ) → chain P.says.graph a b w ≡ true
      → len (sheet_on P).graph w ≡ len P.says.graph w + service_over P.services (drop 1 (touched P.says.graph a w))
  unfolding chain len touched service_over
  len_served a b [] c = refl
  len_served a b (l ∷ w) c =
      let G = P.says.graph in
      let s = and_true (ltb l (length G.arcs)) _ (and_true (ltb a G.nodes) _ c).1 in
      let t = and_true (eqb (tail_of G l) a) _ s.1 in
      let i = len_served (head_of G l) b w t.1 in
      omega (arith, weight_on l (ltb-true l _ s.0), i, ap (service_over P.services) (touched_first (head_of G l) w))
    where
      -- a walk touches its first node first
      touched_first : (p : ℕ) (v : List ℕ) → touched P.says.graph p v ≡ p ∷ drop 1 (touched P.says.graph p v)
      touched_first p [] = refl
      touched_first p (k ∷ v) = refl

  -- the same items are required
  ends_on : (p : ℕ) (ls : List ℕ) → ends_mandatory (sheet_on P) p ls ≡ ends_mandatory P.says p ls
  unfolding ends_mandatory is_mandatory mark_of arc_item sheet_on
  ends_on p [] = refl
  ends_on p (l ∷ ls) = rw (tail_on l, head_on l, ends_on p ls)

  forced_on : (i : ℕ) → is_forced (sheet_on P) i ≡ is_forced P.says i
  unfolding is_forced all_arcs sheet_on
  forced_on i = rw (count_on, ends_on i (all_arcs P.says.graph))

  items_on : all_items (sheet_on P).graph ≡ all_items P.says.graph
  unfolding all_items sheet_on
  items_on = ap (λ (k : ℕ). span (P.says.graph.nodes + k) 0) (served_count P.services P.says.graph.arcs)

  judged_on : is_required (sheet_on P) ≡ is_required P.says
  unfolding is_required is_mandatory mark_of sheet_on
  judged_on = fun_ext (λ i. ap (λ (t : Bool). is_mandatory P.says i && not t) (forced_on i))

  pub required_served : required (sheet_on P) ≡ required P.says
  unfolding required
  required_served = ap (λ (f : ℕ → Bool). keep f (all_items (sheet_on P).graph)) judged_on ∙ ap (keep (is_required P.says)) items_on

-- where no service takes a minute, the page means what it says
none_at : (ss : List ℕ) (p : ℕ) → no_service ss ≡ true → service_of ss p ≡ 0
unfolding no_service service_of
none_at [] p e = refl
none_at (x ∷ ss) zero e = eqb-true x 0 (and_true _ _ e).0
none_at (x ∷ ss) (suc p) e = none_at ss p (and_true (eqb x 0) _ e).1

served_none : (ss : List ℕ) (xs : List Arc) → no_service ss ≡ true → served ss xs ≡ xs
unfolding served served_arc
served_none ss [] e = refl
served_none ss (x ∷ xs) e =
    let z : x.weight + service_of ss x.head ≡ x.weight = omega (arith, none_at ss x.head e) in
    ap (λ (w : ℕ). record { tail = x.tail; head = x.head; weight = w } ∷ served ss xs) z ∙ ap (x ∷◌) (served_none ss xs e)

pub served_zero : (P : Page) → no_service P.services ≡ true → sheet_on P ≡ P.says
unfolding sheet_on
served_zero P e =
    let S = P.says in
    ap {B = Sheet} (λ (xs : List Arc). record { graph = record { nodes = S.graph.nodes; arcs = xs }; source = S.source; target = S.target; limit = S.limit; marks = S.marks })
    (served_none P.services S.graph.arcs e)

pub zeros_none : (n : ℕ) → no_service (zeros n) ≡ true
unfolding no_service zeros
zeros_none zero = refl
zeros_none (suc n) = zeros_none n
