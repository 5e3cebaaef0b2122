-- The two forms of a sheet: the number 1 stands before the content exactly where the byte 1 does. Assumes nothing.
use Prim.Native.Nat.{ℕ}
use mathlib.Core.Path.{◌≡◌, refl, ap, ◌∙◌}
use mathlib.Core.Bool.{Bool, true, false}
use mathlib.Core.List.{List, ◌∷◌}
use native.Mathlib.Omega.{arith}
use lib.Dec.{eqb}
use borrow.Author.Tests.{eqb-true, ne_eqb}
use Rattle.varint.proofs.AgainLaws.{low_read}
use Rattle.varint.specs.Varint.{Read, got, refuse, last_group, read_groups, read_number}
use Rattle.sheet.specs.Reader.{rest_of, past, lead_of, lead, content}

-- the number 1 in front
pub lead_one : (rest : List ℕ) → (lead (1 ∷ rest) ≡ 1) × (content (1 ∷ rest) ≡ rest)
unfolding lead lead_of content past rest_of read_number read_groups last_group
lead_one rest = (refl, refl)

-- another one, or none that can be read
none_leads : (bs : List ℕ) → lead bs ≡ 0 → (lead bs ≡ 0) × (content bs ≡ bs)
unfolding content past
none_leads bs e = (e, ap (λ (k : ℕ). past k bs) e)

pub lead_other : (bs rest : List ℕ) (x : ℕ) → read_number bs ≡ got x rest → (x ≡ 1 → ⊥) → (lead bs ≡ 0) × (content bs ≡ bs)
unfolding lead lead_of
lead_other bs rest x e n = none_leads bs (rw (e, ne_eqb x 1 n))

-- the form of a sheet
pub data Led (bs : List ℕ) : Type 0 where
  plain : lead bs ≡ 0 → content bs ≡ bs → Led bs
  led : (rest : List ℕ) → bs ≡ 1 ∷ rest → lead bs ≡ 1 → content bs ≡ rest → Led bs

pub led_is : (bs : List ℕ) → Led bs
unfolding lead lead_of
led_is bs = go (read_number bs) refl
  where
    not_led : lead bs ≡ 0 → Led bs
    not_led e = let n = none_leads bs e in plain n.0 n.1

    is_led : (rest : List ℕ) → bs ≡ 1 ∷ rest → Led bs
    is_led rest e = let o = lead_one rest in led rest e (ap lead e ∙ o.0) (ap content e ∙ o.1)

    number : (x : ℕ) (rest : List ℕ) → read_number bs ≡ got x rest → (t : Bool) → eqb x 1 ≡ t → Led bs
    number x rest e true q = let o = eqb-true x 1 q in is_led rest (low_read bs 1 rest (omega arith) (e ∙ ap (λ (x : ℕ). got x rest) o))
    number x rest e false q = not_led (rw (e, q))

    go : (r : Read ℕ) → read_number bs ≡ r → Led bs
    go (got x rest) e = number x rest e (eqb x 1) refl
    go (refuse w) e = not_led (rw e)
