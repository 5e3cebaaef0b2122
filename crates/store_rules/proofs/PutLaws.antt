-- What put and ask answer: put by what check says of the slip; which refusals there are; what a put that finishes leaves on the shelf; and that a slip
-- that is put alters the shelf. Assumes nothing.
use Prim.Native.Nat.{ℕ, ◌+◌, ◌≤◌, ◌<◌}
use mathlib.Core.Path.{◌≡◌, refl, sym, ap, ◌∙◌, subst}
use mathlib.Core.Logic.{◌⊎◌, inl, inr, ◌↔◌}
use mathlib.Core.Bool.{Bool, true, false, not, true≢false}
use mathlib.Core.List.{List, [], ◌∷◌, ◌++◌}
use native.Mathlib.Omega.{arith}
use lib.ListN.{length}
use lib.Dec.{eqb, ltb}
use borrow.Author.Tests.{eqb-false, ne_eqb, ltb-true, leb-true, le-leb}
use Rattle.lists.proofs.TestLaws.{and_true, true_and, not_true, false_back, pick_either}
use Rattle.lists.specs.Lists.{pick, member, every, keep, any}
use Rattle.varint.proofs.VarintLaws.{after_got, got_both}
use Rattle.varint.specs.Varint.{Read, got, refuse, after}
use Rattle.sheet.proofs.RefusalLaws.{AmongThese, these_fit, Refusing, after_refusing, page_refusing_these}
use Rattle.sheet.proofs.SlipLaws.{slip_read}
use Rattle.sheet.proofs.SheetLaws.{page_got}
use Rattle.sheet.specs.Lent.{work_numbers}
use Rattle.sheet.specs.Page.{Page, sheet_on}
use Rattle.sheet.specs.Reader.{page}
use Rattle.sheet.specs.Sheet.{Sheet}
use Rattle.sheet.specs.Slip.{Slip, read_slip}
use Rattle.check_rules.proofs.WithinLaws.{slip_refusing}
use Rattle.check_rules.specs.Check.{well_formed, holds, judged_on}
use Rattle.lists.proofs.EntryLaws.{any_last}
use Rattle.store_rules.proofs.ShelfLaws.{subsumes_self}
use Rattle.store_rules.specs.Shelf.{Nogood, Base, Shelf, base_of, fits_base, subsumes, applies, nogood_of, Found, earliest}
use Rattle.store_rules.specs.Store.{shelf_slips, slip_items, shelvable, placed, entered, put_in, put_slip, put_on, put_outcome, put, ask_in, ask_on, told, ask, Reached, made, puts}

-- what 20 asks, part by part
pub record Shelvable (S : Sheet) (s : Slip) : Type 0 where
  pub yes : holds S s ≡ true
  pub kind : s.first ≡ 4 → ⊥
  pub few : length s.goals + length s.reasons ≤ slip_items

module _ (S : Sheet) (s : Slip) where
  shelvable_is : shelvable S s ≡ true → Shelvable S s
  unfolding shelvable
  shelvable_is e =
      let a = and_true _ _ e in
      let b = and_true _ _ a.1 in
      record {
        yes = a.0;
        kind = eqb-false s.first 4 (not_true (eqb s.first 4) b.0);
        few = leb-true (length s.goals + length s.reasons) slip_items b.1;
      }

  is_shelvable : Shelvable S s → shelvable S s ≡ true
  unfolding shelvable
  is_shelvable v =
      true_and v.yes (true_and (ap not (ne_eqb s.first 4 v.kind)) (le-leb (length s.goals + length s.reasons) slip_items v.few))

  pub shelvable_exact : (shelvable S s ≡ true) ↔ Shelvable S s
  shelvable_exact = (shelvable_is, is_shelvable)

-- the slips that a newcomer leaves on the shelf, and the shelf with the newcomer behind them
abbrev pub left : Shelf → Nogood → List Nogood
left K new = keep (λ k. not (subsumes new k)) K.slips

abbrev pub behind : Shelf → Base → Nogood → Shelf
behind K base new = record { base = base; slips = left K new ++ (new ∷ []) }

-- a newcomer that no slip covers, and room for it
pub record Placed (K : Shelf) (new : Nogood) : Type 0 where
  pub alone : any (λ k. subsumes k new) K.slips ≡ false
  pub room : length (left K new) < shelf_slips

-- What a newcomer leads to: the same shelf where it is covered, else the newcomer behind the slips that it leaves.
data Entered (K : Shelf) (base : Base) (new : Nogood) (L : Shelf) : Type 0 where
  covered : any (λ k. subsumes k new) K.slips ≡ true → L ≡ K → Entered K base new L
  last : Placed K new → L ≡ behind K base new → Entered K base new L

entered_got : (K : Shelf) (base : Base) (new : Nogood) (L : Shelf) (rest : List ℕ) → entered K base new ≡ got L rest → Entered K base new L
unfolding entered placed
entered_got K base new L rest e = first (any (λ k. subsumes k new) K.slips) refl e
  where
    end : Bool → Read Shelf
    end t = pick t (got (behind K base new) []) (refuse 23)

    second : any (λ k. subsumes k new) K.slips ≡ false → (t : Bool) → ltb (length (left K new)) shelf_slips ≡ t → end t ≡ got L rest → Entered K base new L
    second a true q e = last (record { alone = a; room = ltb-true (length (left K new)) shelf_slips q }) (sym (got_both (behind K base new) L [] rest e).0)
    second a false q e = absurd (let z : ◌≡◌ {A = ℕ} 0 1 = cc in omega arith)

    first : (t : Bool) → any (λ k. subsumes k new) K.slips ≡ t → pick t (got K []) (end (ltb (length (left K new)) shelf_slips)) ≡ got L rest
        → Entered K base new L
    first true a e = covered a (sym (got_both K L [] rest e).0)
    first false a e = second a (ltb (length (left K new)) shelf_slips) refl e

-- a newcomer that is not covered alters the slips: it is the last of them, and covers itself
pub placed_changes : (K : Shelf) (base : Base) (new : Nogood) (L : Shelf) → entered K base new ≡ got L [] → any (λ k. subsumes k new) K.slips ≡ false
    → L.slips ≡ K.slips → ⊥
placed_changes K base new L e a s = go (entered_got K base new L [] e)
  where
    go : Entered K base new L → ⊥
    go (covered b q) = true≢false (sym b ∙ a)
    go (last b q) =
        let z : K.slips ≡ left K new ++ (new ∷ []) = sym s ∙ ap (λ (L : Shelf). L.slips) q in
        true≢false (sym (subsumes_self new) ∙ any_last (λ k. subsumes k new) (left K new) new (ap (any (λ k. subsumes k new)) (sym z) ∙ a))

-- a slip that was read and is well formed, so that check says b of it and put goes on with it
pub record Judged (K : Shelf) (P : Page) (r : Read Slip) (b : Bool) : Type 0 where
  pub slip : Slip
  pub read : r ≡ got slip []
  pub formed : well_formed (sheet_on P) slip ≡ true
  pub says : holds (sheet_on P) slip ≡ b
  pub goes : after r (put_slip K P) ≡ put_in K P slip

module _ (K : Shelf) (P : Page) (slip : List ℕ) where
  -- what check refuses, put refuses
  pub put_by_check_refused : (e : ℕ) → after (read_slip slip) (judged_on (sheet_on P)) ≡ refuse e → after (read_slip slip) (put_slip K P) ≡ refuse e
  unfolding after judged_on put_slip
  put_by_check_refused e q = go (read_slip slip) q
    where
      formed : (s : Slip) (rest : List ℕ) (t : Bool) → pick t (got (holds (sheet_on P) s) rest) (refuse 18) ≡ refuse e → pick t (put_in K P s) (refuse 18) ≡ refuse e
      formed s rest true q = absurd (let z : ◌≡◌ {A = ℕ} 0 1 = cc in omega arith)
      formed s rest false q = cc

      go : (r : Read Slip) → after r (judged_on (sheet_on P)) ≡ refuse e → after r (put_slip K P) ≡ refuse e
      go (got s rest) q = formed s rest (well_formed (sheet_on P) s) q
      go (refuse w) q = cc

  by_check : (b : Bool) → after (read_slip slip) (judged_on (sheet_on P)) ≡ got b [] → Judged K P (read_slip slip) b
  unfolding after judged_on put_slip
  by_check b q = go (read_slip slip) q
    where
      formed : (s : Slip) (rest : List ℕ) (t : Bool) → well_formed (sheet_on P) s ≡ t → pick t (got (holds (sheet_on P) s) rest) (refuse 18) ≡ got b [] → Judged K P (got s rest) b
      formed s rest true w q = let z : rest ≡ [] = cc in record { slip = s; read = ap (got s) z; formed = w; says = cc; goes = rw w }
      formed s rest false w q = absurd (let z : ◌≡◌ {A = ℕ} 0 1 = cc in omega arith)

      go : (r : Read Slip) → after r (judged_on (sheet_on P)) ≡ got b [] → Judged K P r b
      go (got s rest) q = formed s rest (well_formed (sheet_on P) s) refl q
      go (refuse w) q = absurd (let z : ◌≡◌ {A = ℕ} 0 1 = cc in omega arith)

  -- where check says no, put refuses with 20
  pub put_by_check_no : after (read_slip slip) (judged_on (sheet_on P)) ≡ got false [] → after (read_slip slip) (put_slip K P) ≡ refuse 20
  unfolding put_in
  put_by_check_no q =
      let j = by_check false q in
      j.goes ∙ rw (false_back (shelvable (sheet_on P) j.slip) (holds (sheet_on P) j.slip) (λ v. ((shelvable_exact (sheet_on P) j.slip).0 v).yes) j.says)

  -- where check says yes, put goes on with the slip
  pub put_by_check_yes : after (read_slip slip) (judged_on (sheet_on P)) ≡ got true [] → Judged K P (read_slip slip) true
  put_by_check_yes q = by_check true q

-- put's own refusals, and ask's
abbrev pub put_refusals : List ℕ
put_refusals = 17 ∷ 18 ∷ 20 ∷ 22 ∷ 23 ∷ []

abbrev pub ask_refusals : List ℕ
ask_refusals = 22 ∷ []

-- a shelf, or a sheet's refusal, or one of put's own
pub put_drawn : (K : Shelf) (sheet slip : List ℕ) → Refusing (AmongThese put_refusals) (put_on K sheet slip)
unfolding put_on put_slip put_in entered placed member
put_drawn K sheet slip =
    after_refusing P (page sheet) (λ Q rest. after (read_slip slip) (put_slip K Q)) (page_refusing_these put_refusals sheet)
    (λ Q rest. after_refusing P (read_slip slip) (put_slip K Q) (slip_refusing put_refusals slip refl)
    (λ s rest. pick_either (Refusing P) (well_formed (sheet_on Q) s) (put_in K Q s) (refuse 18)
    (pick_either (Refusing P) (shelvable (sheet_on Q) s) (pick (fits_base K (base_of Q)) (entered K (base_of Q) (nogood_of (sheet_on Q).limit s)) (refuse 22)) (refuse 20)
    (pick_either (Refusing P) (fits_base K (base_of Q)) (entered K (base_of Q) (nogood_of (sheet_on Q).limit s)) (refuse 22) (enters (base_of Q) (nogood_of (sheet_on Q).limit s)) (inr refl)) (inr refl)) (inr refl)))
  where
    P : ℕ → Type 0
    P = AmongThese put_refusals

    enters : (base : Base) (new : Nogood) → Refusing P (entered K base new)
    enters base new =
        pick_either (Refusing P) (any (λ k. subsumes k new) K.slips) (got K []) (placed base (keep (λ k. not (subsumes new k)) K.slips) new) tt
        (pick_either (Refusing P) (ltb (length (keep (λ k. not (subsumes new k)) K.slips)) shelf_slips)
        (got (record { base = base; slips = keep (λ k. not (subsumes new k)) K.slips ++ (new ∷ []) }) []) (refuse 23) tt (inr refl))

-- what was found, or a sheet's refusal, or 22
pub ask_drawn : (K : Shelf) (sheet : List ℕ) → Refusing (AmongThese ask_refusals) (ask_on K sheet)
unfolding ask_on ask_in member
ask_drawn K sheet =
    after_refusing (AmongThese ask_refusals) (page sheet) (ask_in K) (page_refusing_these ask_refusals sheet)
    (λ P rest. pick_either (Refusing (AmongThese ask_refusals)) (fits_base K (base_of P)) (got (earliest (λ k. applies k (sheet_on P)) K.slips) rest) (refuse 22) tt (inr refl))

-- none of them is 0, and all fit the one number of a call
pub put_fits : {e : ℕ} → AmongThese put_refusals e → (1 ≤ e) × (e ≤ 23)
put_fits d = these_fit put_refusals 23 refl (omega arith) d

pub ask_fits : {e : ℕ} → AmongThese ask_refusals e → (1 ≤ e) × (e ≤ 23)
ask_fits d = these_fit ask_refusals 23 refl (omega arith) d

-- the numbers that a call gives: put 0 where it finishes and 1 where it is lent too little work, ask 0
abbrev pub PutNumber : ℕ → Type 0
PutNumber e = (e ≤ 1) ⊎ AmongThese put_refusals e

abbrev pub AskNumber : ℕ → Type 0
AskNumber e = (e ≡ 0) ⊎ AmongThese ask_refusals e

-- Put refuses with 1, 3 to 13, 17, 18, 20, 22 and 23 and with no other number.
pub put_refuses : (K : Shelf) (sheet work slip : List ℕ) → PutNumber (put K sheet work slip).number
unfolding put put_outcome
put_refuses K sheet work slip =
    pick_either (λ (r : Read Shelf). PutNumber (put_outcome K r work).number) (ltb (length work) work_numbers) (refuse _) (put_on K sheet slip) (inl (leb-true _ 1 refl))
    (go (put_on K sheet slip) (put_drawn K sheet slip))
  where
    go : (r : Read Shelf) → Refusing (AmongThese put_refusals) r → PutNumber (put_outcome K r work).number
    go (got L rest) d = inl (omega arith)
    go (refuse e) d = inr d

-- Ask refuses with 3 to 13 and 22 and with no other number.
pub ask_refuses : (K : Shelf) (sheet : List ℕ) → AskNumber (ask K sheet).number
unfolding ask told
ask_refuses K sheet = go (ask_on K sheet) (ask_drawn K sheet)
  where
    go : (r : Read Found) → Refusing (AmongThese ask_refusals) r → AskNumber (told r).number
    go (got f rest) d = inl refl
    go (refuse e) d = inr d

-- What a put that alters the shelf found.
pub record Shelved (K : Shelf) (sheet slip : List ℕ) : Type 0 where
  pub on : Page
  pub took : page sheet ≡ got on []
  pub new : Slip
  pub read : read_slip slip ≡ got new []
  pub formed : well_formed (sheet_on on) new ≡ true
  pub fit : Shelvable (sheet_on on) new
  pub fits : fits_base K (base_of on) ≡ true
  pub placed : Placed K (nogood_of (sheet_on on).limit new)

pub pick_got : {A : Type 0} (t : Bool) (r : Read A) (e : ℕ) (a : A) (rest : List ℕ) → pick t r (refuse e) ≡ got a rest → (t ≡ true) × (r ≡ got a rest)
pick_got true r e a rest q = (refl, q)
pick_got false r e a rest q = absurd (let z : ◌≡◌ {A = ℕ} 0 1 = cc in omega arith)

-- What holds of the shelf as it was, and of the shelf with the newcomer, holds of the shelf after a put.
module _ (P : Shelf → Type 0) (K : Shelf) (sheet slip : List ℕ) (stays : P K)
    (altered : (p : Shelved K sheet slip) → P (behind K (base_of p.on) (nogood_of (sheet_on p.on).limit p.new))) where
  put_got : (L : Shelf) (rest : List ℕ) → put_on K sheet slip ≡ got L rest → P L
  unfolding put_on put_slip put_in
  put_got L rest e =
      let a = after_got (page sheet) (λ Q rest. after (read_slip slip) (put_slip K Q)) L rest e in
      let Q : Page = a.0 in
      let S : Sheet = sheet_on Q in
      let b = after_got (read_slip slip) (put_slip K Q) L rest a.3 in
      let s : Slip = b.0 in
      let w = pick_got (well_formed S s) (put_in K Q s) 18 L rest b.3 in
      let v = pick_got (shelvable S s) (pick (fits_base K (base_of Q)) (entered K (base_of Q) (nogood_of S.limit s)) (refuse 22)) 20 L rest w.1 in
      let f = pick_got (fits_base K (base_of Q)) (entered K (base_of Q) (nogood_of S.limit s)) 22 L rest v.1 in
      let shelved : Placed K (nogood_of S.limit s) → Shelved K sheet slip =
      λ p. record {
        on = Q;
        took = a.2 ∙ ap (got Q) (page_got sheet Q a.1 a.2).1;
        new = s;
        read = b.2 ∙ ap (got s) (slip_read slip s b.1 b.2).2;
        formed = w.0;
        fit = (shelvable_exact S s).0 v.0;
        fits = f.0;
        placed = p;
      } in
      go (base_of Q) (nogood_of S.limit s) (λ p. altered (shelved p)) (entered_got K (base_of Q) (nogood_of S.limit s) L rest f.1)
    where
      go : (base : Base) (new : Nogood) → (Placed K new → P (behind K base new)) → Entered K base new L → P L
      go base new h (covered a q) = subst P (sym q) stays
      go base new h (last p q) = subst P (sym q) (h p)

  pub put_leads : (work : List ℕ) → P (put K sheet work slip).shelf
  unfolding put put_outcome
  put_leads work = go (ltb (length work) work_numbers) (put_on K sheet slip) put_got
    where
      go : (t : Bool) (r : Read Shelf) → ((L : Shelf) (rest : List ℕ) → r ≡ got L rest → P L) → P (put_outcome K (pick t (refuse 1) r) work).shelf
      go true r h = stays
      go false (got L rest) h = h L rest refl
      go false (refuse e) h = stays

-- So what holds of shelves without slips and is kept by every newcomer holds of every shelf that is reached.
pub reached_keeps : (P : Shelf → Type 0) → ((K : Shelf) → K.slips ≡ [] → P K)
    → ((K : Shelf) (sheet slip : List ℕ) → P K → (p : Shelved K sheet slip) → P (behind K (base_of p.on) (nogood_of (sheet_on p.on).limit p.new))) → {K : Shelf} → Reached K → P K
reached_keeps P h g (made e) = h _ e
reached_keeps P h g (puts {K} r sheet work slip) =
    let p : P K = reached_keeps P h g r in
    put_leads P K sheet slip p (g K sheet slip p) work
