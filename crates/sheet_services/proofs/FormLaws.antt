-- Laws of the form of a sheet: with service minutes where the byte 1 stands in front, and without them else. Assumes nothing.
use Prim.Native.Nat.{ℕ}
use mathlib.Core.Path.{◌≡◌, refl, sym, ap, ◌∙◌}
use mathlib.Core.Bool.{Bool, true, false, ◌&&◌}
use mathlib.Core.List.{List, [], ◌∷◌}
use native.Mathlib.Omega.{arith}
use lib.Dec.{eqb}
use lib.ListN.{length, get_or}
use Rattle.std.specs.Int.{from_bool}
use Rattle.std.specs.List.{list_all}
use Rattle.lists.specs.Lists.{every}
use Rattle.sheet.proofs.LeadLaws.{lead_one, Led, plain, led, led_is}
use Rattle.sheet.specs.Page.{no_service}
use Rattle.sheet.specs.Reader.{lead, content}
use Rattle.sheet_services.specs.Services.{leading}

every_all : (f : ℕ → Bool) (xs : List ℕ) → list_all f xs ≡ every f xs
every_all f [] = refl
every_all f (x ∷ xs) = ap (f x &&◌) (every_all f xs)

pub none_all : (services : List ℕ) → list_all (λ x. eqb x 0) services ≡ no_service services
unfolding no_service
none_all services = every_all (λ x. eqb x 0) services

-- how many numbers lead, and where the content starts
abbrev pub Leads : List ℕ → ℕ → List ℕ → Type 0
Leads s k rest = (lead s ≡ k) × (rest ≡ content s)

unled : (s : List ℕ) → (get_or s 0 0 ≡ 1 → ⊥) → Leads s 0 s
unled s n = go (led_is s)
  where
    go : Led s → Leads s 0 s
    go (plain e c) = (e, sym c)
    go (led rest e k c) = absurd (n (ap (λ (bs : List ℕ). get_or bs 0 0) e))

pub leads_one : (s : List ℕ) {b : ℕ} {rest : List ℕ} → s ≡ b ∷ rest → b ≡ 1 → Leads s 1 rest
leads_one s {b} {rest} e o = rw (e, o) ((lead_one rest).0, sym (lead_one rest).1)

pub leads_other : (s : List ℕ) {b : ℕ} {rest : List ℕ} → s ≡ b ∷ rest → (b ≡ 1 → ⊥) → Leads s 0 s
leads_other s e n = unled s (λ o. n (sym (ap (λ (bs : List ℕ). get_or bs 0 0) e) ∙ o))

pub leads_none : (s : List ℕ) → length s ≡ 0 → Leads s 0 s
leads_none [] e = unled [] (λ o. omega (arith, o))
leads_none (b ∷ bs) e = absurd (omega (arith, e))

-- whether a number leads, as a count of numbers
pub counted : (leads : Bool) {k : ℕ} → k ≡ from_bool leads → k ≡ leading leads
counted true e = e
counted false e = e
