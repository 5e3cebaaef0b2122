-- From what put and ask answer to their answers over bytes. A slip that applies to a sheet names items of the sheet alone, so it can be written, and fits. Assumes nothing.
use Prim.Native.Nat.{ℕ, ◌+◌, ◌*◌, ◌≤◌, ◌<◌}
use mathlib.Core.Path.{◌≡◌, refl, sym, ap, ◌∙◌}
use mathlib.Core.Bool.{true}
use mathlib.Core.List.{List, [], ◌∷◌}
use native.Mathlib.Omega.{arith}
use lib.ListN.{length, length-append}
use lib.Dec.{ltb}
use borrow.Author.Tests.{lt-ltb, le-ltb}
use Rattle.lists.proofs.Pigeonhole.{Below, below_append, below_le, below_all}
use Rattle.lists.specs.Lists.{Put}
use Rattle.lists.proofs.RowLaws.{rows_append}
use Rattle.varint.proofs.SizeLaws.{number_byte}
use Rattle.varint.proofs.VarintLaws.{numbers_size}
use Rattle.varint.proofs.WriteLaws.{small_below, numbers_rows}
use Rattle.std.specs.Prelude.{Result}
use Rattle.varint.specs.declared.refusal.Refusal.{Refusal}
use Rattle.varint.specs.Answer.{small}
use Rattle.varint.specs.Varint.{Read, got, refuse, write_numbers}
use Rattle.sheet.proofs.RefusalLaws.{AmongThese, refusing_is}
use Rattle.sheet.proofs.SheetLaws.{page_good}
use Rattle.sheet.specs.Page.{sheet_on}
use Rattle.sheet.specs.Slip.{Slip, slip_numbers, slip_bytes}
use Rattle.slip_reader.specs.Form.{slip_from}
use Rattle.store_rules.proofs.PutLaws.{put_refusals, put_drawn, put_fits, ask_refusals, ask_drawn, ask_fits}
use Rattle.store_rules.proofs.ReachedLaws.{reached_valid, ask_found}
use Rattle.store_rules.proofs.ShelfLaws.{applies_items}
use Rattle.store_rules.specs.Shelf.{Nogood, Shelf, slip_of, Found, missing, found}
use Rattle.store_rules.specs.Store.{put_on, ask_on, Told, told, ask, Reached}
use Rattle.work.proofs.LeftLaws.{left_finished, left_refused}
use Rattle.work.specs.Bytes.{zeroed_bytes, bytes_after}
use Rattle.work.specs.Left.{left}
use Rattle.store_slot.proofs.SlotLaws.{shown_first, shown_few}
use Rattle.store_slot.specs.declared.Slot.{Slot}
use Rattle.store_slot.specs.Slot.{goals_in, reasons_in, shown}
use Rattle.store.specs.declared.Store.{Store}
use Rattle.varint.specs.Refusal.{number_in}
use Rattle.store.specs.Held.{shelf_of}
use Rattle.store.specs.Steps.{Shelved, shelved, PutAs}
use Rattle.store_bytes.specs.Bytes.{PutBytesOutcome, put_bytes_outcome, put_bytes, ask_bytes_outcome, ask_bytes}
use Rattle.store_bytes.specs.Named.{Named}

-- what put draws is at least 1 and at most 23
put_draws : (K : Shelf) (sheet slip : List ℕ) (e : ℕ) → put_on K sheet slip ≡ refuse e → (1 ≤ e) × (e ≤ 23)
put_draws K sheet slip e q = put_fits (refusing_is (AmongThese put_refusals) (put_on K sheet slip) e (put_drawn K sheet slip) q)

-- so its one number fits
module _ (K : Shelf) (sheet slip : List ℕ) {n : ℕ} {L : Shelf} (a : record { number = n; shelf = L } ≡ shelved K (put_on K sheet slip)) where
  pub put_small : n ≤ 23
  unfolding shelved
  put_small = go (put_on K sheet slip) (put_draws K sheet slip) (ap (λ (s : Shelved). s.number) a)
    where
      go : (r : Read Shelf) → ((e : ℕ) → r ≡ refuse e → (1 ≤ e) × (e ≤ 23)) → n ≡ (shelved K r).number → n ≤ 23
      go (got M rest) d q = omega (arith, q)
      go (refuse e) d q = omega (arith, q, (d e refl).1)

in_bytes : (K : Shelf) (work : List ℕ) (r : Read Shelf) → ((e : ℕ) → r ≡ refuse e → (1 ≤ e) × (e ≤ 23))
    → record { number = 65536 * (shelved K r).number + 0; shelf = (shelved K r).shelf; work = left zeroed_bytes (shelved K r).number work } ≡ put_bytes_outcome K r work
unfolding shelved put_bytes_outcome bytes_after
in_bytes K work (got L rest) d = rw (left_finished zeroed_bytes work)
in_bytes K work (refuse e) d = let z : 65536 * e + 0 ≡ 65536 * e = omega arith in rw (z, left_refused zeroed_bytes work e (λ q. absurd (omega (arith, (d e refl).0))))

module _ (before : Store) (sheet work slip : List ℕ) where
  -- 1
  pub put_short : length work < 65536 → record { number = 65536; shelf = shelf_of before; work = work } ≡ put_bytes (shelf_of before) sheet work slip
  unfolding put_bytes put_bytes_outcome bytes_after
  put_short h = let z : ltb (length work) 65536 ≡ true = lt-ltb (length work) 65536 h in rw z

  -- what sheet and slip draw, told in bytes
  pub put_in_bytes : 65536 ≤ length work → {s : Store} {A : Type 0} {o : Result A Refusal} → PutAs before (put_on (shelf_of before) sheet slip) s o
      → {m n : ℕ} {after : List ℕ} → m ≡ number_in o → n ≡ 65536 * m + 0 → after ≡ left zeroed_bytes m work
      → record { number = n; shelf = shelf_of s; work = after } ≡ put_bytes (shelf_of before) sheet work slip
  unfolding put_bytes
  put_in_bytes h a m e f =
      rw (e, f, m, le-ltb (length work) 65536 h)
      (ap {B = PutBytesOutcome} (λ (s : Shelved). record { number = 65536 * s.number + 0; shelf = s.shelf; work = left zeroed_bytes s.number work }) a.answer
      ∙ in_bytes (shelf_of before) work (put_on (shelf_of before) sheet slip) (put_draws (shelf_of before) sheet slip))

-- a slip of few items: it can be written, and has 3 to 51 bytes
pub record Short (k : Nogood) : Type 0 where
  pub first : k.first ≤ 3
  pub few : length k.goals + length k.reasons ≤ 24
  pub named : Named k

module _ {k : Nogood} (h : Short k) where
  goals_below : Below 16384 k.goals
  goals_below = below_le 576 16384 k.goals (omega arith) (below_all 576 k.goals h.named.goals)

  reasons_below : Below 16384 k.reasons
  reasons_below = below_le 576 16384 k.reasons (omega arith) (below_all 576 k.reasons h.named.reasons)

  pub short_small : small (slip_numbers (slip_of k)) ≡ true
  unfolding slip_numbers slip_of
  short_small =
      small_below 16384 (slip_numbers (slip_of k)) (omega arith)
      (omega (arith, h.first), (omega (arith, h.few), below_append 16384 k.goals _ goals_below (omega (arith, h.few), reasons_below)))

  -- the first number and the two counts take a byte each, an item at most two
  pub short_size : (3 ≤ length (slip_bytes (slip_of k))) × (length (slip_bytes (slip_of k)) ≤ 51)
  unfolding slip_bytes slip_numbers slip_of write_numbers
  short_size =
      let g = (numbers_size k.goals goals_below).0 in
      let r = (numbers_size k.reasons reasons_below).0 in
      rw (number_byte k.first (omega (arith, h.first)), number_byte (length k.goals) (omega (arith, h.few)), rows_append numbers_rows k.goals (length k.reasons ∷ k.reasons), number_byte (length k.reasons) (omega (arith, h.few)), length-append (write_numbers k.goals) (length k.reasons ∷ write_numbers k.reasons))
      (omega arith, omega (arith, g, r, h.few))

-- a slot that names items alone shows such a slip
pub slot_short : (k : Slot) → length (goals_in k) + length (reasons_in k) ≤ 24 → Named (shown k) → Short (shown k)
slot_short k l w = record { first = shown_first k; few = shown_few k l; named = w }

-- the slip of a slot, from its lists
pub slot_slip : (k : Slot) {f : ℕ} {gs rs : List ℕ} → f ≡ (shown k).first → gs ≡ goals_in k → rs ≡ reasons_in k → slip_from f gs rs ≡ slip_of (shown k)
unfolding slip_of shown
slot_slip k e g r = rw (e, g, r)

pub wrote_as : {s t : Slip} → s ≡ t → (d out : List ℕ) (n : ℕ) → Put (slip_bytes s) d out n → Put (slip_bytes t) d out n
wrote_as e d out n w = rw e at w

-- what ask answered, by its number
module _ (K : Shelf) (sheet : List ℕ) {n : ℕ} {f : Found} (a : record { number = n; found = f } ≡ ask K sheet) where
  asks : (e : ℕ) → ask_on K sheet ≡ refuse e → (1 ≤ e) × (e ≤ 23)
  asks e q = ask_fits (refusing_is (AmongThese ask_refusals) (ask_on K sheet) e (ask_drawn K sheet) q)

  pub ask_small : n ≤ 23
  unfolding ask told
  ask_small = go (ask_on K sheet) asks (ap (λ (t : Told). t.number) a)
    where
      go : (r : Read Found) → ((e : ℕ) → r ≡ refuse e → (1 ≤ e) × (e ≤ 23)) → n ≡ (told r).number → n ≤ 23
      go (got g rest) d q = omega (arith, q)
      go (refuse e) d q = omega (arith, q, (d e refl).1)

  ask_refuses : (n ≡ 0 → ⊥) → ask_on K sheet ≡ refuse n
  unfolding ask told
  ask_refuses z = go (ask_on K sheet) (ap (λ (t : Told). t.number) a)
    where
      go : (r : Read Found) → n ≡ (told r).number → r ≡ refuse n
      go (got g rest) q = absurd (z q)
      go (refuse e) q = ap refuse (sym q)

  ask_finishes : n ≡ 0 → (rest : List ℕ) × (ask_on K sheet ≡ got f rest)
  unfolding ask told
  ask_finishes z = go (ask_on K sheet) asks a
    where
      go : (r : Read Found) → ((e : ℕ) → r ≡ refuse e → (1 ≤ e) × (e ≤ 23)) → record { number = n; found = f } ≡ told r → (rest : List ℕ) × (r ≡ got f rest)
      go (got g rest) d q = (rest, ap (λ (h : Found). got h rest) (sym (ap (λ (t : Told). t.found) q)))
      go (refuse e) d q = absurd (omega (arith, z, ap (λ (t : Told). t.number) q, (d e refl).0))

  module _ (slip : List ℕ) where
    pub ask_refused : (n ≡ 0 → ⊥) → 1200 ≤ length slip → {r : ℕ} → r ≡ 65536 * n + 0 → record { number = r; slip = slip } ≡ ask_bytes K sheet slip
    unfolding ask_bytes ask_bytes_outcome
    ask_refused z h e = let y : 65536 * n + 0 ≡ 65536 * n = omega arith in rw (le-ltb (length slip) 1200 h, ask_refuses z, e, y)

    pub ask_none : n ≡ 0 → f ≡ missing → 1200 ≤ length slip → record { number = 0; slip = slip } ≡ ask_bytes K sheet slip
    unfolding ask_bytes ask_bytes_outcome
    ask_none z q h = let e = ask_finishes z in go e.0 e.1
      where
        go : (rest : List ℕ) → ask_on K sheet ≡ got f rest → record { number = 0; slip = slip } ≡ ask_bytes K sheet slip
        go rest e = rw (le-ltb (length slip) 1200 h, e, q)

    pub ask_wrote : n ≡ 0 → (k : Nogood) → f ≡ found k → 1200 ≤ length slip → {r : ℕ} {out : List ℕ} → Put (slip_bytes (slip_of k)) slip out r
        → record { number = r; slip = out } ≡ ask_bytes K sheet slip
    unfolding ask_bytes ask_bytes_outcome
    ask_wrote z k q h {r} {out} w = let e = ask_finishes z in go e.0 e.1
      where
        go : (rest : List ℕ) → ask_on K sheet ≡ got f rest → record { number = r; slip = out } ≡ ask_bytes K sheet slip
        go rest e = rw (le-ltb (length slip) 1200 h, e, q, w.0, w.1)

  -- a slip that was found names items alone
  pub ask_named : n ≡ 0 → (k : Nogood) → f ≡ found k → Named k
  ask_named z k q =
      let e = ask_finishes z in
      let s = ask_found K sheet k e.0 (e.1 ∙ ap (λ (g : Found). got g e.0) q) in
      let G = (page_good sheet s.on [] s.took).means in
      let b = applies_items k (sheet_on s.on) G.size s.applied in
      record { goals = λ x m. omega (arith, b.0 x m, G.nodes, G.arcs); reasons = λ x m. omega (arith, b.1 x m, G.nodes, G.arcs) }

-- 2
pub ask_short : (K : Shelf) (sheet slip : List ℕ) → length slip < 1200 → record { number = 131072; slip = slip } ≡ ask_bytes K sheet slip
unfolding ask_bytes ask_bytes_outcome
ask_short K sheet slip h = let z : ltb (length slip) 1200 ≡ true = lt-ltb (length slip) 1200 h in rw z

-- what a reached shelf hands back has 3 to 51 bytes
pub asked_size : (K : Shelf) (sheet : List ℕ) (k : Nogood) (rest : List ℕ) → Reached K → ask_on K sheet ≡ got (found k) rest
    → (3 ≤ length (slip_bytes (slip_of k))) × (length (slip_bytes (slip_of k)) ≤ 51)
unfolding ask told
asked_size K sheet k rest r e =
    let v = reached_valid r k (ask_found K sheet k rest e).entry in
    let a : record { number = 0; found = found k } ≡ ask K sheet = rw e in
    short_size (record { first = v.high; few = v.few; named = ask_named K sheet a refl k refl })
