-- From what the code finds to what put answers, stage by stage. Assumes nothing.
use Prim.Native.Nat.{ℕ, ◌+◌, ◌≤◌, ◌<◌}
use mathlib.Core.Path.{◌≡◌, refl, sym, ap, ◌∙◌, subst}
use mathlib.Core.Bool.{Bool, true, false, not, ◌&&◌}
use mathlib.Core.List.{List, [], ◌∷◌, ◌++◌}
use native.Mathlib.Omega.{arith}
use lib.ListN.{length}
use lib.Dec.{eqb, ltb, leb}
use borrow.Author.Tests.{lt-ltb, le-ltb, ne_eqb, eq-eqb, leb-true, leb-false}
use Rattle.lists.specs.Lists.{keep, any}
use Rattle.std.specs.Prelude.{Result, Ok, Err}
use Rattle.varint.specs.declared.refusal.Refusal.{Refusal}
use Rattle.varint.specs.declared.refusal.Refusal.TheVariants.{NotShelved}
use Rattle.varint.specs.Refusal.{number_of, number_in}
use Rattle.varint.specs.Varint.{Read, got, refuse, after}
use Rattle.sheet.proofs.RefusalLaws.{AmongThese, refusing_is}
use Rattle.sheet.proofs.SlipLaws.{slip_read}
use Rattle.walks.specs.declared.arc.Arc.{Arc}
use Rattle.sheet.specs.Lent.{zeroed, work_after}
use Rattle.sheet.specs.Page.{Page, sheet_on}
use Rattle.sheet.specs.Reader.{page}
use Rattle.sheet.specs.Sheet.{Sheet, sheet_of}
use Rattle.sheet.specs.declared.Header.{Header}
use Rattle.sheet_reader.specs.Loaded.{LoadedPage}
use Rattle.sheet.specs.Slip.{Slip, read_slip}
use Rattle.work.proofs.LeftLaws.{left_finished, left_refused}
use Rattle.work.specs.Left.{left}
use Rattle.check_rules.specs.Check.{holds, judged_on}
use Rattle.store_rules.proofs.PutLaws.{put_refusals, put_drawn, put_fits, placed_changes, put_by_check_refused, put_by_check_no, put_by_check_yes}
use Rattle.store_rules.specs.Shelf.{Nogood, Base, Shelf, base_of, fits_base, subsumes, nogood_of}
use Rattle.store_rules.specs.Store as rules
use Rattle.store_rules.specs.Store.{slip_items, shelvable, placed, entered, put_in, put_slip, put_on, Put, put_outcome}
use Rattle.store_slot.specs.declared.Slot.{Slot}
use Rattle.store_slot.specs.Slot.{shown}
use Rattle.store.specs.declared.Store.{Store}
use Rattle.store.specs.Held.{base_from, base_in, slips_in, shelf_of}
use Rattle.store.specs.Steps.{Shelved, shelved, PutAs, entered_on, Rest, Based, Added, Slotted, Judges}
use Rattle.store.proofs.BaseLaws.{page_base}
use Rattle.store.proofs.ResultLaws.{err_same, ok_same, ok_not_err}

-- a put that leaves the store as it was: refused, or with the same shelf
module _ (before : Store) (r : Read Shelf) {A : Type 0} where
  pub refuses : (why : Refusal) → r ≡ refuse (number_of why) → PutAs {A = A} before r before (Err why)
  unfolding shelved
  refuses why q = record { answer = sym (ap (shelved (shelf_of before)) q); same = λ _. refl }

  pub keeps : (x : A) → r ≡ got (shelf_of before) [] → PutAs before r before (Ok x)
  unfolding shelved
  keeps x q = record { answer = sym (ap (shelved (shelf_of before)) q); same = λ _. refl }

-- what a newcomer leads to
module _ (before : Store) (base : Base) (slot : Slot) where
  pub other_base : fits_base (shelf_of before) base ≡ false → entered_on (shelf_of before) base (shown slot) ≡ refuse 22
  unfolding entered_on
  other_base e = rw e

  module _ (f : fits_base (shelf_of before) base ≡ true) where
    pub is_subsumed : any (λ k. subsumes k (shown slot)) (slips_in before) ≡ true → entered_on (shelf_of before) base (shown slot) ≡ got (shelf_of before) []
    unfolding entered_on entered shelf_of
    is_subsumed e = rw (f, e)

    module _ (a : any (λ k. subsumes k (shown slot)) (slips_in before) ≡ false) {rest : Store} (R : Rest before slot rest) where
      pub no_room : 64 ≤ rest.count → entered_on (shelf_of before) base (shown slot) ≡ refuse 23
      unfolding entered_on entered placed shelf_of
      no_room h =
          let z : ltb (length (keep (λ k. not (subsumes (shown slot) k)) (slips_in before))) 64 ≡ false = le-ltb (length (keep (λ k. not (subsumes (shown slot) k)) (slips_in before))) 64 (omega (arith, R.counted, ap length R.slips)) in
          rw (f, a, z)

      -- the newcomer goes behind the rest
      room_goes : rest.count < 64 → entered (shelf_of before) base (shown slot) ≡ got (record { base = base; slips = slips_in rest ++ (shown slot ∷ []) }) []
      unfolding entered placed shelf_of
      room_goes h =
          let z : ltb (length (slips_in rest)) 64 ≡ true = lt-ltb (length (slips_in rest)) 64 (omega (arith, R.counted)) in
          rw (a, ← R.slips, z)

      new_shelf : rest.count < 64 → (s : Store) → base_in s ≡ base → slips_in s ≡ slips_in rest ++ (shown slot ∷ [])
          → shelf_of s ≡ shelf_of before → ⊥
      unfolding shelf_of
      new_shelf h s b t z =
          placed_changes (shelf_of before) base (shown slot) (record { base = base; slips = slips_in rest ++ (shown slot ∷ []) }) (room_goes h) a
          (sym t ∙ ap (λ (K : Shelf). K.slips) z)

      pub is_placed : rest.count < 64 → {left based : Store} → Based rest base based → Added based slot left → {A : Type 0} (x : A)
          → PutAs before (entered_on (shelf_of before) base (shown slot)) left (Ok x)
      unfolding entered_on shelved shelf_of
      is_placed h {left} B A x =
          let b : base_in left ≡ base = A.base ∙ B.base in
          let t : slips_in left ≡ slips_in rest ++ (shown slot ∷ []) = A.slips ∙ ap (λ (ks : List Nogood). ks ++ (shown slot ∷ [])) B.slips in
          record { answer = rw (f, room_goes h, b, t); same = λ z. absurd (new_shelf h left b t z) }

-- whether a slip that check says yes to is shelvable, by its first number and its counts
abbrev slots : Slip → Bool
slots s = leb s.first 3 && leb (length s.goals + length s.reasons) slip_items

shelvable_is : (S : Sheet) (s : Slip) → holds S s ≡ true → s.first ≤ 4 → shelvable S s ≡ slots s
unfolding shelvable
shelvable_is S s h l = rw h (ap (λ (b : Bool). b && leb (length s.goals + length s.reasons) slip_items) (go (leb s.first 3) refl))
  where
    go : (t : Bool) → leb s.first 3 ≡ t → not (eqb s.first 4) ≡ t
    go true q = let m = leb-true s.first 3 q in ap not (ne_eqb s.first 4 (λ e. absurd (omega (arith, m, e))))
    go false q = let m = leb-false s.first 3 q in let e : s.first ≡ 4 = omega (arith, m) in ap not (eq-eqb s.first 4 e)

module _ (K : Shelf) (P : Page) (s : Slip) {r : Result Slot Refusal} (h : holds (sheet_on P) s ≡ true) (l : s.first ≤ 4) (t : Slotted (sheet_on P).limit (got s []) r) where
  slotted_refused : (why : Refusal) → r ≡ Err why → put_in K P s ≡ refuse (number_of why)
  unfolding put_in
  slotted_refused why e = go (slots s) refl
    where
      go : (b : Bool) → slots s ≡ b → put_in K P s ≡ refuse (number_of why)
      go true q = absurd (ok_not_err (sym (t.0 q).1 ∙ e))
      go false q = rw (shelvable_is (sheet_on P) s h l, q) (ap refuse (ap number_of (err_same (sym (t.1 q) ∙ e))))

  slotted_goes : (slot : Slot) → r ≡ Ok slot → put_in K P s ≡ entered_on K (base_of P) (shown slot)
  unfolding put_in entered_on
  slotted_goes slot e = go (slots s) refl
    where
      go : (b : Bool) → slots s ≡ b → put_in K P s ≡ entered_on K (base_of P) (shown slot)
      go true q = let z = ok_same (sym (t.0 q).1 ∙ e) in let y : shown slot ≡ nogood_of (sheet_on P).limit s = ap shown (sym z) ∙ (t.0 q).2 in rw (shelvable_is (sheet_on P) s h l, q, y)
      go false q = absurd (ok_not_err (sym e ∙ t.1 q))

-- what check answered, and the slot of a slip to which it said yes, judge the slip for every shelf
module _ (S : Sheet) (slip : List ℕ) where
  -- the same answer, by what a page means
  meant : (P : Page) → sheet_on P ≡ S → {r : Read Bool} → after (read_slip slip) (judged_on S) ≡ r → after (read_slip slip) (judged_on (sheet_on P)) ≡ r
  meant P m e = rw m e

  pub judges_refused : (why : Refusal) → after (read_slip slip) (judged_on S) ≡ refuse (number_of why) → Judges S slip (Err why)
  judges_refused why e = record {
    refused = λ w z K P m. put_by_check_refused K P slip (number_of why) (meant P m e) ∙ ap refuse (ap number_of (err_same z));
    goes = λ slot z K P m. absurd (ok_not_err (sym z));
  }

  pub judges_no : after (read_slip slip) (judged_on S) ≡ got false [] → Judges S slip (Err NotShelved)
  judges_no e = record {
    refused = λ w z K P m. put_by_check_no K P slip (meant P m e) ∙ ap refuse (ap number_of (err_same z));
    goes = λ slot z K P m. absurd (ok_not_err (sym z));
  }

  pub judges_yes : {r : Result Slot Refusal} → after (read_slip slip) (judged_on S) ≡ got true [] → Slotted S.limit (read_slip slip) r → Judges S slip r
  judges_yes {r} e t = record { refused = λ why z K P m. (by K P m).0 why z; goes = λ slot z K P m. (by K P m).1 slot z }
    where
      by : (K : Shelf) (P : Page) → sheet_on P ≡ S → ((why : Refusal) → r ≡ Err why → after (read_slip slip) (put_slip K P) ≡ refuse (number_of why)) × ((slot : Slot) → r ≡ Ok slot → after (read_slip slip) (put_slip K P) ≡ entered_on K (base_of P) (shown slot))
      by K P m =
          let j = put_by_check_yes K P slip (meant P m e) in
          let l = (slip_read slip j.slip [] j.read).1 in
          let t' : Slotted (sheet_on P).limit (read_slip slip) r = subst (λ (T : Sheet). Slotted T.limit (read_slip slip) r) (sym m) t in
          let u : Slotted (sheet_on P).limit (got j.slip []) r = rw j.read at t' in
          (λ why z. j.goes ∙ slotted_refused K P j.slip j.says l u why z, λ slot z. j.goes ∙ slotted_goes K P j.slip j.says l u slot z)

-- a sheet that is refused, and one that was read: what the slip draws on it, or what the newcomer leads to
module _ (before : Store) (sheet slip : List ℕ) where
  pub bad_sheet : (w : ℕ) → page sheet ≡ refuse w → put_on (shelf_of before) sheet slip ≡ refuse w
  unfolding put_on after
  bad_sheet w e = rw e

  module _ {h : Header} {arcs : List Arc} {marks services : List ℕ} (L : LoadedPage sheet h arcs marks services) {r : Result Slot Refusal} (J : Judges (sheet_of h arcs marks) slip r) where
    good_sheet : put_on (shelf_of before) sheet slip ≡ after (read_slip slip) (put_slip (shelf_of before) L.on)
    unfolding put_on after
    good_sheet = rw L.took

    pub slip_refused : (why : Refusal) → r ≡ Err why → put_on (shelf_of before) sheet slip ≡ refuse (number_of why)
    slip_refused why e = good_sheet ∙ J.refused why e (shelf_of before) L.on L.means

    pub slip_goes : (slot : Slot) → r ≡ Ok slot → put_on (shelf_of before) sheet slip ≡ entered_on (shelf_of before) (base_from h arcs services) (shown slot)
    slip_goes slot e =
        good_sheet ∙ J.goes slot e (shelf_of before) L.on L.means ∙ ap (λ (B : Base). entered_on (shelf_of before) B (shown slot)) (page_base L)

pub as_drawn : {before left : Store} {r q : Read Shelf} {A : Type 0} {o : Result A Refusal} → r ≡ q → PutAs before q left o → PutAs before r left o
as_drawn e a = rw e a

-- the answer's number and shelf, and the work
abbrev given : ℕ → Store → List ℕ → Put
given n s work = record { number = n; shelf = shelf_of s; work = work }

-- the work is left by the refusal number
given_is : (K : Shelf) (work : List ℕ) (r : Read Shelf) → ((e : ℕ) → r ≡ refuse e → 1 ≤ e)
    → record { number = (shelved K r).number; shelf = (shelved K r).shelf; work = left zeroed (shelved K r).number work } ≡ put_outcome K r work
unfolding shelved put_outcome work_after
given_is K work (got L rest) d = rw (left_finished zeroed work)
given_is K work (refuse e) d = rw (left_refused zeroed work e (λ z. absurd (omega (arith, d e refl))))

module _ (before : Store) (sheet work slip : List ℕ) where
  -- 1
  pub put_short : length work < 16384 → given 1 before work ≡ rules.put (shelf_of before) sheet work slip
  unfolding rules.put put_outcome work_after
  put_short h = let z : ltb (length work) 16384 ≡ true = lt-ltb (length work) 16384 h in rw z

  -- what sheet and slip draw, with the work left by that
  pub put_left : 16384 ≤ length work → {s : Store} {A : Type 0} {o : Result A Refusal} → PutAs before (put_on (shelf_of before) sheet slip) s o
      → {n : ℕ} → n ≡ number_in o → {after : List ℕ} → after ≡ left zeroed n work → given (number_in o) s after ≡ rules.put (shelf_of before) sheet work slip
  unfolding rules.put
  put_left h {o = o} a e z =
      rw (z, e, le-ltb (length work) 16384 h)
      (ap {B = Put} (λ (s : Shelved). record { number = s.number; shelf = s.shelf; work = left zeroed s.number work }) a.answer
      ∙ given_is (shelf_of before) work (put_on (shelf_of before) sheet slip) (λ e q. (put_fits (refusing_is (AmongThese put_refusals) (put_on (shelf_of before) sheet slip) e (put_drawn (shelf_of before) sheet slip) q)).0))
