-- Arcs tried from the active nodes on: an arc whose tail is not active can cut no entry, so with no active node left the row is settled. Assumes nothing.
use Prim.Native.Nat.{ℕ, ◌+◌, ◌-◌, ◌*◌, ◌≤◌, ◌<◌}
use mathlib.Core.Path.{◌≡◌, refl, sym, ap, ◌∙◌, subst}
use mathlib.Core.Logic.{◌⊎◌, inl, inr}
use mathlib.Core.List.{List}
use native.Mathlib.Omega.{arith}
use native.Mathlib.Decide.{ℕ_discrete, dec_lt}
use lib.ListN.{length, get_or, set}
use lib.Seq.{get_or-set_same, get_or-set_other}
use lib.Bits.{bit_or, bit_xor}
use mathlib.Core.Bool.{Bool, true, false, true≢false, false≢true}
use Rattle.walks.specs.declared.arc.Arc.{Arc}
use Rattle.rows.specs.Net.{arc_count, tail_in, head_in, weight_in}
use Rattle.rows.specs.Rows.{total, Tried, ArcTried, same, cut, Started, Keeps, AwaySame}
use Rattle.rows.proofs.RowLaws.{Fits, falls, keep}
use Rattle.rows.specs.Bits.{bit_of, alone}
use Rattle.row_spread.specs.Active.{Still, Tries, idle, fell, Mendable, Added, none, more}
use Rattle.row_spread.specs.Arcs.{last_at, Chained}
use Rattle.rows.proofs.BitLaws.{card, card_small, card_less, added_own, taken_own, taken_other, added_other}
use Rattle.row_spread.proofs.ChainLaws.{last_at_lem, last_none}

-- a head's entry that is cut lets no arc to it cut
pub tried_lower : (cap : ℕ) (d e : List ℕ) (u v w : ℕ) → get_or e u 0 ≡ get_or d u 0 → get_or e v 0 ≤ get_or d v 0 → Tried cap d u v w → Tried cap e u v w
tried_lower cap d e u v w p q t c = omega (arith, t (omega arith))

-- tries one after the other
pub tries_more : {d e f : List ℕ} {P Q R : Type 0} → (P → Q → R) → Tries d P e → Tries e Q f → Tries d R f
tries_more k (idle p) (idle q) = idle (k p q)
tries_more k (idle p) (fell t) = fell t
tries_more k (fell t) (idle q) = fell t
tries_more {d} {e} {f} k (fell t) (fell s) = let l : total f < total d = omega arith in fell l

-- what trying an arc gives
module _ {cap : ℕ} {xs : List Arc} {i : ℕ} {d : List ℕ} {active : ℕ} (heads : head_in xs i < 64) where
  pub added_none : {e : List ℕ} {b : Bool} → b ≡ false → ArcTried cap xs d i e b → Added cap xs i d active e active
  added_none q (same t) = none t
  added_none q (cut c lt) = absurd (true≢false q)

  pub added_more : {e : List ℕ} {b : Bool} → b ≡ true → ArcTried cap xs d i e b → Added cap xs i d active e (bit_or active (alone (head_in xs i)))
  added_more q (same t) = absurd (false≢true q)
  added_more q (cut c lt) = more c lt (added_own active (head_in xs i) heads) (λ x. added_other active (head_in xs i) x heads)

-- no other node is taken off
added_less : (r active h : ℕ) → bit_of r h ≡ 1 → ((x : ℕ) → (x ≡ h → ⊥) → bit_of r x ≡ bit_of active x) → (x : ℕ) → bit_of r x ≡ 0 → bit_of active x ≡ 0
added_less r active h o a x z = go (ℕ_discrete x h)
  where
    go : Dec (x ≡ h) → bit_of active x ≡ 0
    go (yes q) = absurd (let one : bit_of r x ≡ 1 = rw q o in omega arith)
    go (no q) = sym (a x q) ∙ z

-- the arcs of u from number k on are tried, and those of all other nodes that are not active
pub record Waiting (cap : ℕ) (xs : List Arc) (active u k : ℕ) (d : List ℕ) : Type 0 where
  pub tried : (j : ℕ) → j < arc_count xs → bit_of active (tail_in xs j) ≡ 0 → (tail_in xs j ≡ u → k ≤ j)
      → Tried cap d (tail_in xs j) (head_in xs j) (weight_in xs j)

module _ {cap : ℕ} {xs : List Arc} {i : ℕ} {d : List ℕ} {active : ℕ} (f : Fits xs d i) where
  pub added_tries : {e : List ℕ} {r : ℕ} → Added cap xs i d active e r → Tries d (r ≡ active) e
  added_tries (none t) = idle refl
  added_tries (more c lt o l) = fell (falls d (head_in xs i) (get_or d (tail_in xs i) 0 + weight_in xs i) (total d) f.head_in_lem lt (omega arith))

  pub added_keeps : {e : List ℕ} {r : ℕ} → Added cap xs i d active e r → Keeps cap xs d e
  added_keeps (none t) = keep f (same t)
  added_keeps (more c lt o l) = keep f (cut c lt)

  pub added_away : {e : List ℕ} {r : ℕ} (s : ℕ) → Added cap xs i d active e r → AwaySame xs s d e
  added_away s (none t) v a = refl
  added_away s (more c lt o l) v a = get_or-set_other d (head_in xs i) v _ 0 (λ q. a.arcs i f.below (sym q))

  -- an arc tried that waited
  pub added_waits : (u : ℕ) {e : List ℕ} {r : ℕ} → tail_in xs i ≡ u → Added cap xs i d active e r → Waiting cap xs active u (i + 1) d
      → Waiting cap xs r u (last_at (tail_in xs) (tail_in xs i) i) e
  added_waits u q A W = go A
    where
      after : (j : ℕ) → (j ≡ i → ⊥) → tail_in xs j ≡ u → last_at (tail_in xs) (tail_in xs i) i ≤ j → i + 1 ≤ j
      after j z p l = elim (dec_lt j i) [ yes h ↦ absurd (last_none (tail_in xs) (tail_in xs i) i j h l (p ∙ sym q)) | no h ↦ omega arith ]

      kept : Tried cap d (tail_in xs i) (head_in xs i) (weight_in xs i) → Waiting cap xs active u (last_at (tail_in xs) (tail_in xs i) i) d
      kept t = record { tried = λ j h b l. elim (ℕ_discrete j i) [ yes z ↦ rw z t | no z ↦ W.tried j h b (λ p. after j z p (l p)) ] }

      y : ℕ
      y = get_or d (tail_in xs i) 0 + weight_in xs i

      e₁ : List ℕ
      e₁ = set d (head_in xs i) y

      at_head : get_or e₁ (head_in xs i) 0 ≡ y
      at_head = get_or-set_same d (head_in xs i) y 0 f.head_in_lem

      beside : (x : ℕ) → (x ≡ head_in xs i → ⊥) → get_or e₁ x 0 ≡ get_or d x 0
      beside x z = get_or-set_other d (head_in xs i) x y 0 z

      lower : y < get_or d (head_in xs i) 0 → (x : ℕ) → Dec (x ≡ head_in xs i) → get_or e₁ x 0 ≤ get_or d x 0
      lower lt x (yes z) = rw z (omega (arith, at_head))
      lower lt x (no z) = omega (arith, beside x z)

      -- no loop cuts its own entry
      tail : y < get_or d (head_in xs i) 0 → tail_in xs i ≡ head_in xs i → ⊥
      tail lt z = absurd (omega (arith, ap (λ (x : ℕ). get_or d x 0) z))

      cuts : (r : ℕ) → y < get_or d (head_in xs i) 0 → bit_of r (head_in xs i) ≡ 1 → ((x : ℕ) → bit_of r x ≡ 0 → bit_of active x ≡ 0)
          → (j : ℕ) → Dec (j ≡ i) → j < arc_count xs → bit_of r (tail_in xs j) ≡ 0 → (tail_in xs j ≡ u → last_at (tail_in xs) (tail_in xs i) i ≤ j)
          → Tried cap e₁ (tail_in xs j) (head_in xs j) (weight_in xs j)
      cuts r lt o a j (yes z) h b l = rw z (λ c. omega (arith, at_head, beside (tail_in xs i) (tail lt)))
      cuts r lt o a j (no z) h b l =
          tried_lower cap d e₁ (tail_in xs j) (head_in xs j) (weight_in xs j) (beside (tail_in xs j) (λ p. absurd (omega (arith, o, b, ap (bit_of r) p))))
          (lower lt (head_in xs j) (ℕ_discrete (head_in xs j) (head_in xs i))) (W.tried j h (a (tail_in xs j) b) (λ p. after j z p (l p)))

      go : {e : List ℕ} {r : ℕ} → Added cap xs i d active e r → Waiting cap xs r u (last_at (tail_in xs) (tail_in xs i) i) e
      go (none t) = kept t
      go (more {r = r} c lt o a) = record { tried = λ j h b l. cuts r lt o (added_less r active (head_in xs i) o a) j (ℕ_discrete j i) h b l }

-- a node's arcs: none is tried yet, and all are
module _ (xs : List Arc) {chains : List ℕ} (C : Chained xs chains) where
  pub waits_begun : {cap active u : ℕ} {d : List ℕ} → u < 64 → Still cap xs active d → Waiting cap xs (bit_xor active (alone u)) u (get_or chains u 0) d
  waits_begun {cap} {active} {u} {d} hu S = record { tried = λ j h b l. go j h b l (ℕ_discrete (tail_in xs j) u) }
    where
      go : (j : ℕ) → j < arc_count xs → bit_of (bit_xor active (alone u)) (tail_in xs j) ≡ 0 → (tail_in xs j ≡ u → get_or chains u 0 ≤ j) → Dec (tail_in xs j ≡ u)
          → Tried cap d (tail_in xs j) (head_in xs j) (weight_in xs j)
      go j h b l (yes q) = absurd (last_none (tail_in xs) u (arc_count xs) j h (omega (arith, l q, C.lasts u hu)) q)
      go j h b l (no q) = S.tried j h (sym (taken_other active u (tail_in xs j) hu q) ∙ b)

  -- the arcs that are met leave u
  pub met_first : (u k : ℕ) → u < 64 → get_or chains u 0 ≡ k → 0 < k → tail_in xs (k - 1) ≡ u
  met_first u k h e z = last_at_lem (tail_in xs) u (arc_count xs) (k - 1) (sym (C.lasts u h) ∙ e ∙ omega arith)

  pub met_next : (u i k : ℕ) → i < arc_count xs → tail_in xs i ≡ u → get_or chains (64 + i) 0 ≡ k → 0 < k → tail_in xs (k - 1) ≡ u
  met_next u i k h q e z = last_at_lem (tail_in xs) (tail_in xs i) i (k - 1) (sym (C.befores i h) ∙ e ∙ omega arith) ∙ q

  pub waits_more : {cap active u k : ℕ} {d e : List ℕ} {r : ℕ} → 0 < k → Fits xs d (k - 1) → tail_in xs (k - 1) ≡ u → Added cap xs (k - 1) d active e r
      → Waiting cap xs active u k d → Waiting cap xs r u (get_or chains (64 + (k - 1)) 0) e
  waits_more {cap} {active} {u} {k} {d} z f t A W =
      let q : k ≡ k - 1 + 1 = omega arith in
      rw (C.befores (k - 1) f.below) (added_waits f u t A (subst (λ (n : ℕ). Waiting cap xs active u n d) q W))

-- a node that is taken off, and no entry was cut
pub taken : {d e : List ℕ} (active u : ℕ) {left : ℕ} → u < 64 → bit_of active u ≡ 1 → Tries d (left ≡ bit_xor active (alone u)) e
    → Tries d ((bit_of left u ≡ 0) × ((x : ℕ) → bit_of active x ≡ 0 → bit_of left x ≡ 0)) e
taken active u hu o (fell t) = fell t
taken active u {left} hu o (idle q) = idle (rw q (taken_own active u hu o), rw q others)
  where
    others : (x : ℕ) → bit_of active x ≡ 0 → bit_of (bit_xor active (alone u)) x ≡ 0
    others x b = elim (ℕ_discrete x u) [ yes z ↦ absurd (omega (arith, o, b, ap (bit_of active) z)) | no z ↦ taken_other active u x hu z ∙ b ]

-- each turn makes this less: a node is taken off, or the sum of the entries falls
pub turn_less : {d e : List ℕ} (u left r : ℕ) → u < 64 → bit_of left u ≡ 1 → Tries d ((bit_of r u ≡ 0) × ((x : ℕ) → bit_of left x ≡ 0 → bit_of r x ≡ 0)) e
    → total e * 65 + card r 64 < total d * 65 + card left 64
turn_less {d} {e} u left r h o (fell t) = omega (arith, card_small r 64)
turn_less {d} u left r h o (idle b) = omega (arith, card_less left r b.1 u o b.0 64 h)

-- the start is set
module _ {cap : ℕ} {xs : List Arc} {marks : List ℕ} {s active : ℕ} {d row : List ℕ} (M : Mendable cap xs marks s active d) (room : s < length d) where
  pub mend_begun : Started marks s d row → Still cap xs active row
  mend_begun (inr w) = rw w.1 M.still
  mend_begun (inl w) = rw w.1 (record { tried = tried })
    where
      own : get_or (set d s 0) s 0 ≡ 0
      own = get_or-set_same d s 0 0 room

      open_start : (get_or marks s 0 ≡ 2) ⊎ (get_or d s 0 ≡ 0) → get_or d s 0 ≡ 0
      open_start (inl q) = absurd (w.0 q)
      open_start (inr q) = q

      tail : (x : ℕ) → Dec (x ≡ s) → bit_of active x ≡ 0 → get_or (set d s 0) x 0 ≡ get_or d x 0
      tail x (yes q) b = rw q (own ∙ sym (open_start (M.begun (rw q at b))))
      tail x (no q) b = get_or-set_other d s x 0 0 q

      head : (x : ℕ) → Dec (x ≡ s) → get_or (set d s 0) x 0 ≤ get_or d x 0
      head x (yes q) = rw q (omega (arith, own))
      head x (no q) = omega (arith, get_or-set_other d s x 0 0 q)

      tried : (j : ℕ) → j < arc_count xs → bit_of active (tail_in xs j) ≡ 0 → Tried cap (set d s 0) (tail_in xs j) (head_in xs j) (weight_in xs j)
      tried j h b =
          tried_lower cap d (set d s 0) (tail_in xs j) (head_in xs j) (weight_in xs j) (tail (tail_in xs j) (ℕ_discrete (tail_in xs j) s) b)
          (head (head_in xs j) (ℕ_discrete (head_in xs j) s)) (M.still.tried j h b)

-- no other entry is touched
pub started_away : (marks : List ℕ) {s : ℕ} {d row : List ℕ} → Started marks s d row → (v : ℕ) → (v ≡ s → ⊥) → get_or row v 0 ≡ get_or d v 0
started_away marks (inr w) v q = ap (λ (l : List ℕ). get_or l v 0) w.1
started_away marks {s} {d} (inl w) v q = ap (λ (l : List ℕ). get_or l v 0) w.1 ∙ get_or-set_other d s v 0 0 q
