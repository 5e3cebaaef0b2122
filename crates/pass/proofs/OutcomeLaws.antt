-- What a call leaves, by what it answers: shared by pass and reason. Assumes nothing.
use Prim.Native.Nat.{ℕ, ◌≤◌, ◌<◌}
use mathlib.Core.Path.{◌≡◌, refl, sym, ap, ◌∙◌}
use mathlib.Core.Bool.{Bool, true, false}
use mathlib.Core.List.{List}
use native.Mathlib.Omega.{arith}
use native.Mathlib.Decide.{dec_lt}
use lib.ListN.{length, drop}
use lib.Seq.{take_at}
use lib.Dec.{ltb}
use borrow.Author.Tests.{lt-ltb, le-ltb}
use Rattle.lists.specs.Lists.{pick, Put}
use Rattle.sheet.specs.Lent.{work_numbers, zeroed, work_after}
use Rattle.work.proofs.LeftLaws.{left_finished, left_refused}
use Rattle.work.specs.Left.{left, is_zeroed}
use Rattle.pass_rules.proofs.WithinLaws.{Within}
use Rattle.pass_rules.proofs.WroteLaws.{refused_call, Finished, finished_call}
use Rattle.varint.proofs.RefusalLaws.{no_refusal}
use Rattle.varint.specs.Refusal.{number_of, number_in, length_in}
use Rattle.varint.specs.declared.refusal.Refusal.{Refusal}
use Rattle.varint.specs.declared.refusal.Refusal.TheVariants.{ShortWork, ShortSlip}
use Rattle.std.specs.Prelude.{Result, Ok, Err}
use Rattle.sheet.specs.Answer.{Answer, finished, refused, Wrote, wrote}
use Rattle.pass_rules.specs.Pass.{Outcome, outcome, lent_enough, written}

-- a refusal gives length 0 and leaves the slip as found
pub wrote_none : {a : Answer} {slip : List ℕ} {e : ℕ} → a ≡ refused e → record { number = e; length = 0; out = slip } ≡ wrote a slip
unfolding wrote
wrote_none e = rw e

-- a finished call leaves the slip in front
pub wrote_bytes : {a : Answer} (slip : List ℕ) {bytes out : List ℕ} {n : ℕ} → a ≡ finished bytes → Put bytes slip out n
    → record { number = 0; length = n; out = out } ≡ wrote a slip
unfolding wrote
wrote_bytes slip e w = rw (e, w.0, w.1)

-- what a call that answers a Result drew and left in its slip
module _ {a : Answer} (d : List ℕ) {s : List ℕ} {r : Result ℕ Refusal}
    (e : record { number = number_in r; length = length_in r; out = s } ≡ wrote a d) (w : Within a) where
  pub refused_result : {why : Refusal} → r ≡ Err why → a ≡ refused (number_of why)
  refused_result {why} q = (refused_call a d (number_of why) 0 s (rw q at e) w (omega (arith, no_refusal why))).is

  pub finished_result : {n : ℕ} → r ≡ Ok n → Finished a s n
  finished_result {n} q = finished_call a d 0 n s (rw q at e) w (omega arith)

-- with the work, left by the refusal number
abbrev worked : Wrote → List ℕ → Outcome
worked w work = record { number = w.number; length = w.length; work = left zeroed w.number work; slip = w.out }

worked_is : (work slip : List ℕ) (a : Answer) → Within a → worked (wrote a slip) work ≡ outcome a work slip
unfolding wrote outcome work_after
worked_is work slip (finished bytes) l = rw (left_finished zeroed work)
worked_is work slip (refused e) l = rw (left_refused zeroed work e (λ z. absurd (omega (arith, l.0))))

module _ (a : Answer) (work slip : List ℕ) where
  -- 1: too little work
  pub short_work : length work < 16384 → record { number = 1; length = 0; work = work; slip = slip } ≡ outcome (lent_enough work slip a) work slip
  unfolding lent_enough outcome work_after
  short_work h = rw (lt-ltb (length work) 16384 h)

  module _ (g : 16384 ≤ length work) where
    -- 2: too short a slip
    pub short_slip : length slip < 1200 → record { number = 2; length = 0; work = work; slip = slip } ≡ outcome (lent_enough work slip a) work slip
    unfolding lent_enough outcome work_after
    short_slip h = rw (le-ltb (length work) 16384 g, lt-ltb (length slip) 1200 h)

    -- what was written, and the work left by the refusal number
    pub with_work : 1200 ≤ length slip → Within a → (w : Wrote) → w ≡ wrote a slip → {n : ℕ} → n ≡ w.number
        → {after : List ℕ} → after ≡ left zeroed n work → record { number = w.number; length = w.length; work = after; slip = w.out } ≡ outcome (lent_enough work slip a) work slip
    unfolding lent_enough
    with_work h l w e n z =
        rw (le-ltb (length work) 16384 g, le-ltb (length slip) 1200 h, z, n) (ap (λ (w : Wrote). worked w work) e ∙ worked_is work slip a l)

-- a call that is refused where it is lent too little, and else leaves what it was made for
pub lent_outcome : (a : Answer) (work slip : List ℕ) → Within a → (r : Result ℕ Refusal) {after out : List ℕ} → (length work < 16384 → (r ≡ Err ShortWork) × (out ≡ slip))
    → (16384 ≤ length work → length slip < 1200 → (r ≡ Err ShortSlip) × (out ≡ slip))
    → (16384 ≤ length work → 1200 ≤ length slip → record { number = number_in r; length = length_in r; out = out } ≡ wrote a slip)
    → after ≡ left zeroed (number_in r) work
    → record { number = number_in r; length = length_in r; work = after; slip = out } ≡ outcome (lent_enough work slip a) work slip
unfolding left is_zeroed
lent_outcome a work slip w r {after} {out} few short called z = go (dec_lt (length work) 16384) (dec_lt (length slip) 1200)
  where
    go : Dec (length work < 16384) → Dec (length slip < 1200)
        → record { number = number_in r; length = length_in r; work = after; slip = out } ≡ outcome (lent_enough work slip a) work slip
    go (yes h) k = let e = few h in rw (z, e.0, e.1) (short_work a work slip h)
    go (no h) (yes k) = let l : 16384 ≤ length work = omega arith in let e = short l k in rw (z, e.0, e.1) (short_slip a work slip l k)
    go (no h) (no k) =
        let l : 16384 ≤ length work = omega arith in
        let m : 1200 ≤ length slip = omega arith in
        with_work a work slip l m w _ (called l m) refl z

-- a call that answers 0 was lent enough, finished, and its slip stands in front
pub call_writes : (a : Answer) (work slip : List ℕ) → Within a → (outcome (lent_enough work slip a) work slip).number ≡ 0
    → a ≡ finished (written (outcome (lent_enough work slip a) work slip))
unfolding outcome lent_enough
call_writes a work slip = go (ltb (length work) work_numbers) (ltb (length slip) 1200) a
  where
    go : (t u : Bool) (a : Answer) → Within a → (outcome (pick t (refused 1) (pick u (refused 2) a)) work slip).number ≡ 0
        → a ≡ finished (written (outcome (pick t (refused 1) (pick u (refused 2) a)) work slip))
    go true u a l z = absurd (omega arith)
    go false true a l z = absurd (omega arith)
    go false false (refused e) l z = absurd (omega (arith, l.0, z))
    go false false (finished bytes) l z = ap finished (sym (take_at bytes (drop (length bytes) slip) (length bytes) refl))
