-- `fits` says whether a walk keeps to the limit; closing more, asking more and a smaller limit never bring one about. Assumes nothing.
use Prim.Native.Nat.{ℕ, ◌+◌, ◌≤◌, ◌<◌}
use mathlib.Core.Path.{◌≡◌, refl, sym, ap, ◌∙◌}
use mathlib.Core.Bool.{Bool, true, false, false≢true, true≢false}
use mathlib.Core.List.{List, [], ◌∷◌}
use native.Mathlib.Omega.{arith}
use borrow.Author.Tests.{leb-true, leb-false}
use Rattle.lists.proofs.TestLaws.{true_of, false_of}
use Rattle.walks.proofs.GoalLaws.{Under, Includes}
use Rattle.walks.proofs.Join.{meets_all, meets_at}
use Rattle.walks.proofs.LeastLaw.{fit_walk, walk_fit, Upto, Attained, is_least}
use Rattle.walks.specs.Graph.{Graph, head_of, arc_item, item_count, len, fit, least, fits}
use Rattle.walks.specs.Lengths.{Least, none, some, within}
use Rattle.walks.specs.Walk.{Walk, SomeWalk, NoWalk}

not_within : (r : Least) (j k : ℕ) → within r k ≡ false → Upto r j → k < j
unfolding within
not_within none j k e h = absurd h
not_within (some a) j k e h = omega (arith, leb-false a k e)

-- an item of the graph that c leaves open, c' leaves open too
abbrev pub Narrower : Graph → (ℕ → Bool) → (ℕ → Bool) → Type 0
Narrower G c c' = (i : ℕ) → i < item_count G → c i ≡ false → c' i ≡ false

pub walk_narrower : (G : Graph) (c c' : ℕ → Bool) (a b : ℕ) (w : List ℕ) → Narrower G c c' → Walk G c a b w → Walk G c' a b w
unfolding arc_item
walk_narrower G c c' a b [] n W = record { node = W.node; open_node = n a (omega (arith, W.node)) W.open_node; there = W.there }
walk_narrower G c c' a b (l ∷ w) n W = (
  record {
    node = W.0.node;
    open_node = n a (omega (arith, W.0.node)) W.0.open_node;
    arc = W.0.arc;
    open_arc = n (G.nodes + l) (omega (arith, W.0.arc)) W.0.open_arc;
    leaves = W.0.leaves;
  },
  walk_narrower G c c' (head_of G l) b w n W.1,
)

-- a walk that fits still does where less is closed and less is asked
pub fit_narrower : (G : Graph) (c c' : ℕ → Bool) (gs gs' : List ℕ) (a b : ℕ) (w : List ℕ) → Narrower G c c' → Includes gs gs' → fit G c gs a b w ≡ true
    → fit G c' gs' a b w ≡ true
fit_narrower G c c' gs gs' a b w n i e =
    let f = fit_walk G c gs b a w e in
    walk_fit G c' gs' b a w (walk_narrower G c c' a b w n f.0) (meets_all G gs' a w (λ g m. meets_at G gs a w g f.1 (i g m)))

-- closing more and asking more never shorten the least length
pub least_narrower : (G : Graph) (c c' : ℕ → Bool) (gs gs' : List ℕ) (a b : ℕ) → Narrower G c c' → Includes gs gs'
    → Under (least G c' gs' a b) (least G c gs a b)
least_narrower G c c' gs gs' a b n i = go (least G c gs a b) (is_least G c gs a b).attained
  where
    go : (r : Least) → Attained G (fit G c gs a b) r → Under (least G c' gs' a b) r
    go none t = tt
    go (some k) t = rw t.2 at ((is_least G c' gs' a b).lower t.0 (fit_narrower G c c' gs gs' a b t.0 n i t.1))

pub closing_more : (G : Graph) (c c' : ℕ → Bool) (gs : List ℕ) (a b : ℕ) → Narrower G c c' → Under (least G c' gs a b) (least G c gs a b)
closing_more G c c' gs a b n = least_narrower G c c' gs gs a b n (λ g m. m)

pub asking_more : (G : Graph) (c : ℕ → Bool) (gs gs' : List ℕ) (a b : ℕ) → Includes gs gs' → Under (least G c gs' a b) (least G c gs a b)
asking_more G c gs gs' a b i = least_narrower G c c gs gs' a b (λ j h o. o) i

under_both : (x y : Least) → Under x y → Under y x → x ≡ y
under_both none none p q = refl
under_both none (some b) p q = absurd p
under_both (some a) none p q = absurd q
under_both (some a) (some b) p q = let e : a ≡ b = omega arith in ap some e

-- the least length depends only on which items are closed and which are goals
pub least_same : (G : Graph) (c c' : ℕ → Bool) (gs gs' : List ℕ) (a b : ℕ) → ((i : ℕ) → i < item_count G → c i ≡ c' i) → Includes gs gs' → Includes gs' gs
    → least G c gs a b ≡ least G c' gs' a b
least_same G c c' gs gs' a b e i j =
    under_both (least G c gs a b) (least G c' gs' a b) (least_narrower G c' c gs' gs a b (λ k h o. e k h ∙ o) j)
    (least_narrower G c c' gs gs' a b (λ k h o. sym (e k h) ∙ o) i)

module _ (G : Graph) (s t k : ℕ) (closed : ℕ → Bool) (goals : List ℕ) where
  pub fits_some : fits G s t k closed goals ≡ true → SomeWalk G s t k closed goals
  unfolding fits within
  fits_some e = go (least G closed goals s t) (is_least G closed goals s t).attained e
    where
      go : (r : Least) → Attained G (fit G closed goals s t) r → within r k ≡ true → SomeWalk G s t k closed goals
      go none w q = absurd (false≢true q)
      go (some a) w q = record { way = w.0; fitting = w.1; short = omega (arith, w.2, leb-true a k q) }

  pub fits_none : fits G s t k closed goals ≡ false → NoWalk G s t k closed goals
  unfolding fits
  fits_none e w f = not_within (least G closed goals s t) (len G w) k e ((is_least G closed goals s t).lower w f)

  pub none_fits : NoWalk G s t k closed goals → fits G s t k closed goals ≡ false
  none_fits n = false_of (fits G s t k closed goals) (λ q. let v = fits_some q in absurd (omega (arith, n v.way v.fitting, v.short)))

  pub some_fits : SomeWalk G s t k closed goals → fits G s t k closed goals ≡ true
  some_fits v = true_of (fits G s t k closed goals) (λ q. absurd (omega (arith, fits_none q v.way v.fitting, v.short)))

-- fewer closures, fewer goals and a greater limit keep a walk
pub fits_mono : (G : Graph) (s t k k' : ℕ) (c c' : ℕ → Bool) (gs gs' : List ℕ) → Narrower G c c' → Includes gs gs' → k ≤ k'
    → fits G s t k c gs ≡ true → fits G s t k' c' gs' ≡ true
fits_mono G s t k k' c c' gs gs' n i h e =
    let v = fits_some G s t k c gs e in
    some_fits G s t k' c' gs'
    (record { way = v.way; fitting = fit_narrower G c c' gs gs' s t v.way n i v.fitting; short = omega (arith, v.short) })

pub fits_anti : (G : Graph) (s t k k' : ℕ) (c c' : ℕ → Bool) (gs gs' : List ℕ) → Narrower G c c' → Includes gs gs' → k ≤ k'
    → fits G s t k' c' gs' ≡ false → fits G s t k c gs ≡ false
fits_anti G s t k k' c c' gs gs' n i h e = false_of (fits G s t k c gs) (λ q. true≢false (sym (fits_mono G s t k k' c c' gs gs' n i h q) ∙ e))
