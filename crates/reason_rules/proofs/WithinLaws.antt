-- Which refusals reason has, and that whatever it answers fits the one number of a call. Assumes nothing.
use Prim.Native.Nat.{ℕ, ◌≤◌}
use mathlib.Core.Path.{◌≡◌, refl}
use mathlib.Core.Logic.{◌⊎◌, inl, inr}
use mathlib.Core.List.{List, [], ◌∷◌}
use native.Mathlib.Omega.{arith}
use lib.Dec.{ltb}
use Rattle.lists.proofs.TestLaws.{pick_either}
use Rattle.lists.specs.Lists.{member, every}
use Rattle.varint.specs.Varint.{got, refuse, after}
use Rattle.walks.specs.Graph.{item_count}
use Rattle.sheet.proofs.AnswerLaws.{answer_refused}
use Rattle.sheet.proofs.RefusalLaws.{AmongThese, these_fit, Refusing, after_refusing, refusing_is, taken_refusing_these}
use Rattle.sheet.specs.Answer.{Answer, finished, refused}
use Rattle.sheet.specs.Reader.{taken}
use Rattle.sheet.specs.Sheet.{Sheet}
use Rattle.pass_rules.proofs.WithinLaws.{Within, call_number}
use Rattle.reason_rules.proofs.AnswerLaws.{reason_took, reason_slip_size}
use Rattle.reason_rules.specs.Reason.{prunes, reason_in, reason_on, reasoned}

-- reason's own refusals
abbrev pub reason_refusals : List ℕ
reason_refusals = 15 ∷ 16 ∷ []

item_refusing : (i : ℕ) (S : Sheet) (rest : List ℕ) → Refusing (AmongThese reason_refusals) (reason_in i S rest)
unfolding reason_in member
item_refusing i S rest =
    pick_either (Refusing (AmongThese reason_refusals)) (ltb i (item_count S.graph)) _ (refuse _)
    (pick_either (Refusing (AmongThese reason_refusals)) (prunes S i) (got _ rest) (refuse _) tt (inr refl)) (inr refl)

-- reason draws a sheet's refusal, or one of its own
pub reason_refused : (sheet : List ℕ) (i e : ℕ) → reason_on sheet i ≡ refused e → AmongThese reason_refusals e
unfolding reason_on
reason_refused sheet i e z =
    refusing_is (AmongThese reason_refusals) (after (taken sheet) (reason_in i)) e
    (after_refusing (AmongThese reason_refusals) (taken sheet) (reason_in i) (taken_refusing_these reason_refusals sheet) (item_refusing i)) (answer_refused (after (taken sheet) (reason_in i)) e z)

-- the numbers that a call of reason gives: 0 where it finishes, 1 and 2 where it is lent too little
abbrev pub ReasonNumber : ℕ → Type 0
ReasonNumber e = (e ≤ 2) ⊎ AmongThese reason_refusals e

-- Reason refuses with 1 to 13, 15 and 16 and with no other number.
pub reason_refuses : (sheet work slip : List ℕ) (i : ℕ) → ReasonNumber (reasoned sheet work slip i).number
unfolding reasoned
reason_refuses sheet work slip i = call_number ReasonNumber (reason_on sheet i) work slip (λ e h. inl h) (λ e z. inr (reason_refused sheet i e z))

fits : {e : ℕ} → AmongThese reason_refusals e → (1 ≤ e) × (e ≤ 16)
fits d = these_fit reason_refusals 16 refl (omega arith) d

pub reason_within : (sheet : List ℕ) (i : ℕ) → Within (reason_on sheet i)
reason_within sheet i = go (reason_on sheet i) refl
  where
    go : (a : Answer) → reason_on sheet i ≡ a → Within a
    go (finished bytes) e = let t = reason_took sheet i bytes e in (reason_slip_size sheet t.0 i bytes t.1 e).0
    go (refused e) q = fits (reason_refused sheet i e q)
