-- The laws of reached shelves on the calls that C makes: a put over bytes leads from a reached shelf to a reached one; and where ask over bytes writes a slip,
-- the pass refuses the sheet's round. Assumes nothing.
use Prim.Native.Nat.{ℕ, ◌≤◌, ◌<◌}
use mathlib.Core.Path.{◌≡◌, refl, sym, ◌∙◌, subst}
use mathlib.Core.Bool.{Bool, true, false}
use mathlib.Core.List.{List}
use native.Mathlib.Omega.{arith}
use lib.ListN.{length}
use lib.Dec.{ltb}
use borrow.Author.Tests.{le-ltb}
use Rattle.lists.specs.Lists.{pick}
use Rattle.varint.specs.Varint.{Read, got, refuse}
use Rattle.sheet.specs.Lent.{work_numbers, zeros}
use Rattle.sheet.specs.Slip.{Slip}
use Rattle.pass_rules.specs.Pass.{Refuses}
use Rattle.store_rules.proofs.PutLaws.{ask_drawn, ask_fits, ask_refusals}
use Rattle.sheet.proofs.RefusalLaws.{AmongThese, refusing_is}
use Rattle.store_rules.proofs.ReachedLaws.{asked_refused}
use Rattle.store_rules.specs.Shelf.{Shelf, Found, missing, found}
use Rattle.store_rules.specs.Store.{put_on, put_outcome, put, ask_on, Reached, puts}
use Rattle.work.proofs.ZeroLaws.{length_zeros}
use Rattle.work.specs.Bytes.{work_bytes}
use Rattle.store_bytes.specs.Bytes.{put_bytes_outcome, put_bytes, ask_bytes_outcome, ask_bytes}

-- what a put over bytes leaves on the shelf is what one over numbers leaves that is lent enough
same_shelf : (K : Shelf) (r : Read Shelf) (bytes work : List ℕ) → (put_bytes_outcome K r bytes).shelf ≡ (put_outcome K r work).shelf
unfolding put_bytes_outcome put_outcome
same_shelf K (got L rest) bytes work = refl
same_shelf K (refuse e) bytes work = refl

lent_enough : (K : Shelf) (sheet slip : List ℕ) → (put K sheet (zeros work_numbers) slip).shelf ≡ (put_outcome K (put_on K sheet slip) (zeros work_numbers)).shelf
unfolding put
lent_enough K sheet slip = rw (le-ltb (length (zeros work_numbers)) work_numbers (omega (arith, length_zeros work_numbers)))

-- Putting over bytes leads from a reached shelf to a reached one.
pub call_reached : {K : Shelf} → Reached K → (sheet work slip : List ℕ) → Reached (put_bytes K sheet work slip).shelf
unfolding put_bytes put_bytes_outcome
call_reached {K} r sheet work slip = go (ltb (length work) work_bytes)
  where
    go : (t : Bool) → Reached (put_bytes_outcome K (pick t (refuse 1) (put_on K sheet slip)) work).shelf
    go true = r
    go false = subst Reached (lent_enough K sheet slip ∙ sym (same_shelf K (put_on K sheet slip) work (zeros work_numbers))) (puts r sheet (zeros work_numbers) slip)

-- Where ask over bytes writes a slip of a reached shelf, the pass refuses the sheet's round.
pub call_asked : (K : Shelf) → Reached K → (sheet slip : List ℕ) → 1 ≤ (ask_bytes K sheet slip).number → (ask_bytes K sheet slip).number < 65536
    → (s : Slip) × Refuses sheet s
unfolding ask_bytes ask_bytes_outcome
call_asked K r sheet slip l h = go (ltb (length slip) 1200) (ask_on K sheet) refl l h
  where
    go : (t : Bool) (q : Read Found) → ask_on K sheet ≡ q → 1 ≤ (ask_bytes_outcome (pick t (refuse 2) q) slip).number → (ask_bytes_outcome (pick t (refuse 2) q) slip).number < 65536
        → (s : Slip) × Refuses sheet s
    go true q e l h = absurd (omega (arith, h))
    go false (got missing rest) e l h = absurd (omega (arith, l))
    go false (got (found k) rest) e l h = asked_refused K sheet k rest r e
    go false (refuse w) e l h = let d = ask_fits (refusing_is (AmongThese ask_refusals) (ask_on K sheet) w (ask_drawn K sheet) e) in absurd (omega (arith, d.0, h))
