-- On the code: the contract of `take_number` allows one answer, so the bytes that decide what `read_number` answers decide what a call answers. Assumes
-- nothing.
use Prim.Native.Nat.{ℕ}
use mathlib.Core.Path.{◌≡◌, refl, sym, ap, ◌∙◌}
use mathlib.Core.List.{List, ◌++◌}
use native.Mathlib.Omega.{arith}
use lib.ListN.{take}
use Rattle.std.specs.Prelude.{Result, Ok, Err}
use Rattle.varint.specs.declared.refusal.Refusal.{Refusal}
use Rattle.varint.specs.declared.refusal.Refusal.TheVariants.{Ends, Overlong}
use Rattle.varint.specs.Varint.{Read, got, refuse, read_number}
use Rattle.varint.specs.Refusal.{number_of}
use Rattle.varint.specs.Decided.{Decided, Allowed, TheAnswer, DecidedCall, left}
use Rattle.varint.proofs.DecidedLaws.{number_decided, overlong_decided}
use Rattle.varint.proofs.RefusalLaws.{one_refusal}
use Rattle.varint.proofs.VarintLaws.{got_both}

not_both : {x e : ℕ} {rest : List ℕ} → got x rest ≡ refuse e → ⊥
not_both e = let z : ◌≡◌ {A = ℕ} 0 1 = cc in omega arith

refusals : (d e : ℕ) → ◌≡◌ {A = Read ℕ} (refuse d) (refuse e) → d ≡ e
refusals d e q = cc

-- the contract of `take_number` allows one answer
pub allowed_one : (s : List ℕ) (r : Result ℕ Refusal) (rest : List ℕ) → Allowed s r rest → TheAnswer s r rest
allowed_one s r rest a = (a, λ r' rest' b. go r r' a b)
  where
    go : (r r' : Result ℕ Refusal) {rest rest' : List ℕ} → Allowed s r rest → Allowed s r' rest' → (r' ≡ r) × (rest' ≡ rest)
    go (Ok x) (Ok y) {rest} {rest'} a b = let z = got_both y x rest' rest (sym b.got ∙ a.got) in (ap Ok z.0, z.1)
    go (Ok x) (Err w) a b = absurd (not_both (sym a.got ∙ b.refused))
    go (Err v) (Ok y) a b = absurd (not_both (sym b.got ∙ a.refused))
    go (Err v) (Err w) a b = (ap Err (one_refusal w v (refusals (number_of w) (number_of v) (sym b.refused ∙ a.refused))), b.kept ∙ sym a.kept)

module _ {bs : List ℕ} {answer : List ℕ → Read ℕ} (d : Decided read_number 4 bs answer) where
  decided_call : (r : Result ℕ Refusal) → ((t : List ℕ) → Allowed (d.bytes ++ t) r (left r d.bytes t)) → DecidedCall d.bytes r
  decided_call r a = record {
    some = d.some;
    few = d.few;
    again = λ t. allowed_one (d.bytes ++ t) r (left r d.bytes t) (a t);
    before = λ k h. allowed_one (take k d.bytes) (Err Ends) (take k d.bytes) (record { got = tt; refused = d.before k h; kept = refl; small = tt });
  }

-- once `take_number` has a number, the bytes that are left have no effect on it
pub call_decided : (s : List ℕ) (x : ℕ) (rest : List ℕ) → Allowed s (Ok x) rest → (p : List ℕ) × (s ≡ p ++ rest) × DecidedCall p (Ok x)
call_decided s x rest a =
    let e = number_decided s x rest a.got in
    let d = e.0 in
    (d.bytes, d.parts ∙ ap (d.bytes ++◌) e.1, decided_call d (Ok x) (λ t. record { got = d.again t; refused = tt; kept = tt; small = a.small }))

-- once it draws 4, bytes from there on have no effect
pub call_overlong : (s rest : List ℕ) → Allowed s (Err Overlong) rest → (p : List ℕ) × (t : List ℕ) × (s ≡ p ++ t) × DecidedCall p (Err Overlong)
call_overlong s rest a =
    let d = overlong_decided s a.refused in
    (d.bytes, d.rest, d.parts, decided_call d (Err Overlong) (λ t. record { got = tt; refused = d.again t; kept = refl; small = tt }))
