-- What the answer to a sheet says of the sheet: where an operation finishes it is taken, and where one refuses so does what was read. Assumes nothing.
use Prim.Native.Nat.{ℕ}
use mathlib.Core.Path.{◌≡◌, refl, ap, ◌∙◌}
use mathlib.Core.List.{List, []}
use native.Mathlib.Omega.{arith}
use Rattle.varint.specs.Varint.{Read, got, refuse, after}
use Rattle.sheet.proofs.SheetLaws.{taken_got}
use Rattle.sheet.specs.Answer.{finished, refused, answer_of}
use Rattle.sheet.specs.Reader.{taken}
use Rattle.sheet.specs.Sheet.{Sheet}

pub answer_refused : (r : Read (List ℕ)) (e : ℕ) → answer_of r ≡ refused e → r ≡ refuse e
unfolding answer_of
answer_refused (got bytes rest) e z = absurd (let y : ◌≡◌ {A = ℕ} 0 1 = cc in omega arith)
answer_refused (refuse w) e z = let y : w ≡ e = cc in ap refuse y

pub answer_took : (sheet : List ℕ) (f : Sheet → List ℕ → Read (List ℕ)) (bytes : List ℕ) → answer_of (after (taken sheet) f) ≡ finished bytes
    → (S : Sheet) × (taken sheet ≡ got S [])
unfolding answer_of after
answer_took sheet f bytes = go (taken sheet) refl
  where
    go : (r : Read Sheet) → taken sheet ≡ r → answer_of (after r f) ≡ finished bytes → (S : Sheet) × (taken sheet ≡ got S [])
    go (got S rest) e z = (S, e ∙ ap (got S) (taken_got sheet S rest e).1)
    go (refuse w) e z = absurd (let y : ◌≡◌ {A = ℕ} 0 1 = cc in omega arith)
