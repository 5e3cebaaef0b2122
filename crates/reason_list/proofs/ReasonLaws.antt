-- The greedy list of reasons: its items are closed and ascend, no walk clear of them meets the goals within the limit, and with any one of them
-- open some walk does. By induction over the items: `mixed` is what is closed once those from i on are replaced by what is listed of them, and no
-- turn (`Turn`) changes it. Assumes nothing.
use Prim.Native.Nat.{ℕ, zero, suc, ◌+◌, ◌≤◌, ◌<◌}
use mathlib.Core.Path.{◌≡◌, refl, sym, ap, ◌∙◌, fun_ext}
use mathlib.Core.Logic.{⊎_elim, ◌≢◌}
use mathlib.Core.Bool.{Bool, true, false, not, ◌&&◌, ◌||◌, true≢false}
use mathlib.Core.List.{List, [], ◌∷◌}
use native.Mathlib.Omega.{arith}
use native.Mathlib.Decide.{ℕ_discrete}
use lib.ListN.{set}
use lib.Dec.{eqb, ltb}
use borrow.Author.Tests.{eq-eqb, ne_eqb, ltb-true, ltb-false, lt-ltb, le-ltb}
use Rattle.lists.specs.Lists.{member, ascends}
use Rattle.lists.proofs.TestLaws.{and_true, true_and, not_true, or_true, false_back}
use Rattle.lists.proofs.MemberLaws.{member_head, member_cases, member_none}
use Rattle.walks.specs.Graph.{Graph, item_count, closed_in, fits}
use Rattle.walks.specs.Walk.{SomeWalk, NoWalk}
use Rattle.walks.proofs.FitsLaws.{Narrower, fits_some, fits_none, fits_mono, fits_anti}
use Rattle.reason_list.specs.Reasons.{greedy, reasons, but}
use Rattle.walks.proofs.OpenedLaws.{open_same, open_other, open_closed}

but_cases : (c : ℕ → Bool) (r j : ℕ) → but c r j ≡ true → (c j ≡ true) × (j ≡ r → ⊥)
unfolding but
but_cases c r j e =
    let s = and_true (c j) (not (eqb j r)) e in (s.0, λ p. true≢false (sym (eq-eqb j r p) ∙ not_true (eqb j r) s.1))

-- what is closed once the items from i on are replaced by the list R
unfoldable mixed : ℕ → List ℕ → List ℕ → ℕ → Bool
mixed i marks R j = (ltb j i && closed_in marks j) || member j R

mixed_zero : (marks R : List ℕ) → mixed 0 marks R ≡ (λ j. member j R)
unfolding mixed
mixed_zero marks R = fun_ext (λ j. rw (le-ltb j 0 (omega arith)))

-- where the list has closed items only, each is one that was closed
mixed_closed : (i : ℕ) (marks R : List ℕ) → ((j : ℕ) → member j R ≡ true → closed_in marks j ≡ true) → (j : ℕ) → mixed i marks R j ≡ true
    → closed_in marks j ≡ true
unfolding mixed
mixed_closed i marks R h j e = ⊎_elim (λ q. (and_true (ltb j i) (closed_in marks j) q).1) (h j) (or_true (ltb j i && closed_in marks j) (member j R) e)

ltb_beside : (i j : ℕ) → j ≢ i → ltb j i ≡ ltb j (suc i)
ltb_beside i j n = go (ltb j i) refl
  where
    go : (t : Bool) → ltb j i ≡ t → t ≡ ltb j (suc i)
    go true q = sym (lt-ltb j (suc i) (omega (arith, ltb-true j i q)))
    go false q = sym (le-ltb j (suc i) (omega (arith, ltb-false j i q)))

-- Where item i is open, or is opened, or goes from the marks to the list, the same is closed.
module _ (i : ℕ) (marks R : List ℕ) where
  mixed_at : (marks' R' : List ℕ) → member i R ≡ (closed_in marks' i || member i R')
      → ((j : ℕ) → j ≢ i → (closed_in marks j ≡ closed_in marks' j) × (member j R ≡ member j R')) → mixed i marks R ≡ mixed (suc i) marks' R'
  unfolding mixed
  mixed_at marks' R' here others = fun_ext (λ j. go j (ℕ_discrete j i))
    where
      go : (j : ℕ) → Dec (j ≡ i) → mixed i marks R j ≡ mixed (suc i) marks' R' j
      go j (yes q) = rw (q, le-ltb i i (omega arith), lt-ltb i (suc i) (omega arith)) here
      go j (no q) = rw (ltb_beside i j q, (others j q).0, (others j q).1)

  mixed_passed : closed_in marks i ≡ false → mixed i marks R ≡ mixed (suc i) marks R
  mixed_passed p = mixed_at marks R (rw p) (λ j n. (refl, refl))

  mixed_opened : mixed i marks R ≡ mixed (suc i) (set marks i 0) R
  mixed_opened = mixed_at (set marks i 0) R (rw (open_same marks i)) (λ j n. (sym (open_other marks i j n), refl))

mixed_listed : (i : ℕ) (marks R : List ℕ) → closed_in marks i ≡ true → mixed i marks (i ∷ R) ≡ mixed (suc i) marks R
unfolding member
mixed_listed i marks R p = mixed_at i marks (i ∷ R) marks R (rw (p, eq-eqb i i refl)) (λ j n. (refl, rw (ne_eqb j i n)))

-- a number below each entry goes before them
ascends_more : (x : ℕ) (xs : List ℕ) → ascends xs ≡ true → ((j : ℕ) → member j xs ≡ true → x < j) → ascends (x ∷ xs) ≡ true
unfolding ascends
ascends_more x [] e h = refl
ascends_more x (y ∷ ys) e h = true_and (lt-ltb x y (h y (member_head y ys))) e

module _ (G : Graph) (s t k : ℕ) (goals : List ℕ) where
  -- one turn of the list
  pub data Turn (c i : ℕ) (marks : List ℕ) : List ℕ → Type 0 where
    passed : closed_in marks i ≡ false → Turn c i marks (greedy G s t k goals c (suc i) marks)
    listed : closed_in marks i ≡ true → fits G s t k (closed_in (set marks i 0)) goals ≡ true
        → Turn c i marks (i ∷ greedy G s t k goals c (suc i) marks)
    opened : closed_in marks i ≡ true → fits G s t k (closed_in (set marks i 0)) goals ≡ false
        → Turn c i marks (greedy G s t k goals c (suc i) (set marks i 0))

  pub turn : (c i : ℕ) (marks : List ℕ) → Turn c i marks (greedy G s t k goals (suc c) i marks)
  unfolding greedy
  turn c i marks = go (closed_in marks i) refl (fits G s t k (closed_in (set marks i 0)) goals) refl
    where
      go : (b : Bool) → closed_in marks i ≡ b → (f : Bool) → fits G s t k (closed_in (set marks i 0)) goals ≡ f
          → Turn c i marks (greedy G s t k goals (suc c) i marks)
      go false p f q = rw (p, greedy) (passed p)
      go true p true q = rw (p, q, greedy) (listed p q)
      go true p false q = rw (p, q, greedy) (opened p q)

  -- the list holds closed items among the c from i on
  abbrev Among : ℕ → ℕ → List ℕ → List ℕ → Type 0
  Among c i marks R = (j : ℕ) → member j R ≡ true → (i ≤ j) × (j < i + c) × (closed_in marks j ≡ true)

  among_turn : (c i : ℕ) (marks : List ℕ) {R : List ℕ} → Turn c i marks R
      → ((marks' : List ℕ) → Among c (suc i) marks' (greedy G s t k goals c (suc i) marks')) → Among (suc c) i marks R
  among_turn c i marks (passed p) ih j m = let a = ih marks j m in (omega (arith, a.0), omega (arith, a.1), a.2)
  among_turn c i marks (listed p q) ih j m =
      ⊎_elim (λ e. (omega arith, omega arith, rw e p)) (λ m'. let a = ih marks j m' in (omega (arith, a.0), omega (arith, a.1), a.2))
      (member_cases j i (greedy G s t k goals c (suc i) marks) m)
  among_turn c i marks (opened p q) ih j m =
      let a = ih (set marks i 0) j m in (omega (arith, a.0), omega (arith, a.1), (open_closed marks i j a.2).0)

  among : (c i : ℕ) (marks : List ℕ) → Among c i marks (greedy G s t k goals c i marks)
  unfolding greedy
  among zero i marks j m = absurd (member_none j m)
  among (suc c) i marks j m = among_turn c i marks (turn c i marks) (λ marks'. among c (suc i) marks') j m

  ascending : (c i : ℕ) (marks : List ℕ) → ascends (greedy G s t k goals c i marks) ≡ true
  unfolding greedy ascends
  ascending zero i marks = refl
  ascending (suc c) i marks = go (turn c i marks) (λ marks'. ascending c (suc i) marks')
    where
      go : {R : List ℕ} → Turn c i marks R → ((marks' : List ℕ) → ascends (greedy G s t k goals c (suc i) marks') ≡ true) → ascends R ≡ true
      go (passed p) ih = ih marks
      go (listed p q) ih =
          ascends_more i (greedy G s t k goals c (suc i) marks) (ih marks) (λ j m. omega (arith, (among c (suc i) marks j m).0))
      go (opened p q) ih = ih (set marks i 0)

  -- each item of the graph that c' closes, c closes
  abbrev Within : (ℕ → Bool) → (ℕ → Bool) → Type 0
  Within c' c = (j : ℕ) → j < item_count G → c' j ≡ true → c j ≡ true

  narrower : (c c' : ℕ → Bool) → Within c' c → Narrower G c c'
  narrower c c' h j b o = false_back (c' j) (c j) (h j b) o

  fits_less : (c c' : ℕ → Bool) → Within c' c → fits G s t k c goals ≡ true → fits G s t k c' goals ≡ true
  fits_less c c' h e = fits_mono G s t k k c c' goals goals (narrower c c' h) (λ g m. m) (omega arith) e

  fits_more : (c c' : ℕ → Bool) → Within c' c → fits G s t k c' goals ≡ false → fits G s t k c goals ≡ false
  fits_more c c' h e = fits_anti G s t k k c c' goals goals (narrower c c' h) (λ g m. m) (omega arith) e

  -- the list blocks the goals if the marks do
  abbrev Valid : ℕ → List ℕ → List ℕ → Type 0
  Valid i marks R = fits G s t k (closed_in marks) goals ≡ false → fits G s t k (mixed i marks R) goals ≡ false

  valid_turn : (c i : ℕ) (marks : List ℕ) {R : List ℕ} → Turn c i marks R
      → ((marks' : List ℕ) → Valid (suc i) marks' (greedy G s t k goals c (suc i) marks')) → Valid i marks R
  valid_turn c i marks (passed p) ih e = rw (mixed_passed i marks (greedy G s t k goals c (suc i) marks) p) (ih marks e)
  valid_turn c i marks (listed p q) ih e = rw (mixed_listed i marks (greedy G s t k goals c (suc i) marks) p) (ih marks e)
  valid_turn c i marks (opened p q) ih e = rw (mixed_opened i marks (greedy G s t k goals c (suc i) (set marks i 0))) (ih (set marks i 0) q)

  valid : (c i : ℕ) (marks : List ℕ) → i + c ≡ item_count G → Valid i marks (greedy G s t k goals c i marks)
  unfolding greedy mixed
  valid zero i marks n e = fits_more (mixed i marks []) (closed_in marks) (λ j b a. rw (lt-ltb j i (omega arith), a)) e
  valid (suc c) i marks n e = valid_turn c i marks (turn c i marks) (λ marks'. valid c (suc i) marks' (omega arith)) e

  -- with any one of the list open, a walk fits
  abbrev Minimal : ℕ → List ℕ → List ℕ → Type 0
  Minimal i marks R = (r : ℕ) → member r R ≡ true → fits G s t k (but (mixed i marks R) r) goals ≡ true

  minimal_turn : (c i : ℕ) (marks : List ℕ) {R : List ℕ} → Turn c i marks R
      → ((marks' : List ℕ) → Minimal (suc i) marks' (greedy G s t k goals c (suc i) marks')) → Minimal i marks R
  minimal_turn c i marks (passed p) ih r m = rw (mixed_passed i marks (greedy G s t k goals c (suc i) marks) p) (ih marks r m)
  minimal_turn c i marks (listed p q) ih r m =
      rw (mixed_listed i marks R p)
      (⊎_elim (λ e. rw e (fits_less (closed_in (set marks i 0)) (but (mixed (suc i) marks R) i) fewer q)) (ih marks r) (member_cases r i R m))
    where
      R : List ℕ
      R = greedy G s t k goals c (suc i) marks

      -- with i open, no more is closed than with i opened in the marks
      fewer : Within (but (mixed (suc i) marks R) i) (closed_in (set marks i 0))
      fewer j b x =
          let a = but_cases (mixed (suc i) marks R) i j x in
          open_other marks i j a.1 ∙ mixed_closed (suc i) marks R (λ j m. (among c (suc i) marks j m).2) j a.0
  minimal_turn c i marks (opened p q) ih r m = rw (mixed_opened i marks (greedy G s t k goals c (suc i) (set marks i 0))) (ih (set marks i 0) r m)

  minimal : (c i : ℕ) (marks : List ℕ) → Minimal i marks (greedy G s t k goals c i marks)
  unfolding greedy
  minimal zero i marks r m = absurd (member_none r m)
  minimal (suc c) i marks r m = minimal_turn c i marks (turn c i marks) (λ marks'. minimal c (suc i) marks') r m

-- a turn's list by whether the item is closed, whether a walk fits with it opened, and the list of the rest in either case
turned : ℕ → Bool → Bool → List ℕ → List ℕ → List ℕ
turned i closed fitting kept other =
    elim closed [
      | false ↦ kept
      | true ↦ elim fitting [
        | true ↦ i ∷ kept
        | false ↦ other
      ]
    ]

turned_alike : (i : ℕ) {b b' f f' : Bool} {R R' Q Q' : List ℕ} → b ≡ b' → f ≡ f' → R ≡ R' → Q ≡ Q' → turned i b f R Q ≡ turned i b' f' R' Q'
turned_alike i p q r o = cc

-- marks that close the same items give the same list
module _ (G : Graph) (s t k : ℕ) (goals : List ℕ) where
  opened_alike : (marks marks' : List ℕ) (i : ℕ) → ((j : ℕ) → closed_in marks j ≡ closed_in marks' j)
      → (j : ℕ) → closed_in (set marks i 0) j ≡ closed_in (set marks' i 0) j
  opened_alike marks marks' i e j = go (ℕ_discrete j i)
    where
      go : Dec (j ≡ i) → closed_in (set marks i 0) j ≡ closed_in (set marks' i 0) j
      go (yes q) = rw q (open_same marks i ∙ sym (open_same marks' i))
      go (no q) = open_other marks i j q ∙ e j ∙ sym (open_other marks' i j q)

  greedy_alike : (c i : ℕ) (marks marks' : List ℕ) → ((j : ℕ) → closed_in marks j ≡ closed_in marks' j)
      → greedy G s t k goals c i marks ≡ greedy G s t k goals c i marks'
  unfolding greedy turned
  greedy_alike zero i marks marks' e = refl
  greedy_alike (suc c) i marks marks' e =
      let o = opened_alike marks marks' i e in
      let same : fits G s t k (closed_in (set marks i 0)) goals ≡ fits G s t k (closed_in (set marks' i 0)) goals = ap (λ (f : ℕ → Bool). fits G s t k f goals) (fun_ext o) in
      turned_alike i (e i) same (greedy_alike c (suc i) marks marks' e) (greedy_alike c (suc i) (set marks i 0) (set marks' i 0) o)

  pub reasons_alike : (marks marks' : List ℕ) → ((j : ℕ) → closed_in marks j ≡ closed_in marks' j) → reasons G s t k goals marks ≡ reasons G s t k goals marks'
  unfolding reasons
  reasons_alike marks marks' e = greedy_alike (item_count G) 0 marks marks' e

-- the laws of the whole list
module _ (G : Graph) (s t k : ℕ) (goals marks : List ℕ) where
  pub reasons_closed : (j : ℕ) → member j (reasons G s t k goals marks) ≡ true → (closed_in marks j ≡ true) × (j < item_count G)
  unfolding reasons
  reasons_closed j m = let a = among G s t k goals (item_count G) 0 marks j m in (a.2, omega (arith, a.1))

  pub reasons_ascend : ascends (reasons G s t k goals marks) ≡ true
  unfolding reasons
  reasons_ascend = ascending G s t k goals (item_count G) 0 marks

  pub reasons_valid : fits G s t k (closed_in marks) goals ≡ false → NoWalk G s t k (λ j. member j (reasons G s t k goals marks)) goals
  unfolding reasons
  reasons_valid e =
      fits_none G s t k (λ j. member j (reasons G s t k goals marks)) goals
      (rw mixed_zero at (valid G s t k goals (item_count G) 0 marks (omega arith) e))

  pub reasons_minimal : (r : ℕ) → member r (reasons G s t k goals marks) ≡ true
      → SomeWalk G s t k (but (λ j. member j (reasons G s t k goals marks)) r) goals
  unfolding reasons
  reasons_minimal r m =
      fits_some G s t k (but (λ j. member j (reasons G s t k goals marks)) r) goals
      (rw mixed_zero at (minimal G s t k goals (item_count G) 0 marks r m))
