-- Laws of what stands behind the content of a sheet: nothing where no number leads, and else its service minutes. Assumes nothing.
use Prim.Native.Nat.{ℕ, zero, suc, ◌≤◌}
use mathlib.Core.Path.{◌≡◌, refl, sym, ap, ◌∙◌}
use mathlib.Core.Bool.{true, false}
use mathlib.Core.List.{List, ◌++◌}
use lib.ListN.{length, take, drop}
use Rattle.lists.specs.Lists.{front}
use Rattle.varint.specs.Varint.{got, refuse, after, several}
use Rattle.work.proofs.ZeroLaws.{length_zeros}
use Rattle.numbers.specs.Begun.{begun}
use Rattle.numbers.proofs.SeveralLaws.{several_read, part_got, part_refused, part_front}
use Rattle.sheet.specs.Lent.{zeros}
use Rattle.sheet.specs.Page.{no_service}
use Rattle.sheet.specs.Reader.{read_service, some_service, read_services}
use Rattle.sheet_services.specs.Services.{services_in, ServicesTaken, ServicesRefused}

module _ (n : ℕ) (bs : List ℕ) where
  -- none leads
  module _ (i : ℕ) (none : i ≡ 0) where
    pub plain_front : (d : List ℕ) → front (services_in i n bs) d ≡ zeros n ++ drop n d
    unfolding services_in
    plain_front d = rw none (rw length_zeros)

    pub plain_taken : ServicesTaken i n bs bs
    unfolding services_in read_services
    plain_taken = rw none (record { taken = λ S e. ap (λ (i : ℕ). got (record { says = S; services = zeros i }) bs) e })

  -- one leads
  led_front_at : (j : ℕ) (d : List ℕ) {k : ℕ} {out : List ℕ} → k ≡ n → out ≡ front (begun read_service k bs) (take n d) → length out ≡ k → n ≤ length d
      → out ++ drop n d ≡ front (services_in (suc j) n bs) d
  unfolding services_in
  led_front_at j d size e l h = part_front (begun read_service n bs) d n (rw size at e) (l ∙ size) h

  module _ {k : ℕ} (size : k ≡ n) where
    led_refused_at : (j : ℕ) {e : ℕ} → several read_service k bs ≡ refuse e → ServicesRefused (suc j) n bs e
    unfolding read_services after
    led_refused_at j q = let z = part_refused read_service bs size q in record { refused = λ S e. rw (e, z) }

    module _ {xs rest : List ℕ} (q : several read_service k bs ≡ got xs rest) where
      same : begun read_service n bs ≡ xs
      same = rw (← size) (several_read read_service k bs xs rest (sym q)).1

      none_refused_at : (j : ℕ) → no_service xs ≡ true → ServicesRefused (suc j) n bs 11
      unfolding read_services some_service after
      none_refused_at j t = let z = part_got read_service bs size q in let u : no_service (begun read_service n bs) ≡ true = rw same t in record { refused = λ S e. rw (e, z, u) }

      some_taken_at : (j : ℕ) → no_service xs ≡ false → ServicesTaken (suc j) n bs rest
      unfolding services_in read_services some_service after
      some_taken_at j t = let z = part_got read_service bs size q in let u : no_service (begun read_service n bs) ≡ false = rw same t in record { taken = λ S e. rw (e, z, u) }

-- any number of them leads
some_lead : (P : ℕ → Type 0) (i : ℕ) → (i ≡ 0 → ⊥) → ((j : ℕ) → P (suc j)) → P i
some_lead P zero led f = absurd (led refl)
some_lead P (suc j) led f = f j

module _ (i n : ℕ) (bs : List ℕ) (led : i ≡ 0 → ⊥) where
  pub led_front : (d : List ℕ) {k : ℕ} {out : List ℕ} → k ≡ n → out ≡ front (begun read_service k bs) (take n d) → length out ≡ k → n ≤ length d
      → out ++ drop n d ≡ front (services_in i n bs) d
  led_front d {k} {out} size e l h = some_lead (λ i. out ++ drop n d ≡ front (services_in i n bs) d) i led (λ j. led_front_at n bs j d size e l h)

  module _ {k : ℕ} (size : k ≡ n) where
    pub led_refused : {e : ℕ} → several read_service k bs ≡ refuse e → ServicesRefused i n bs e
    led_refused {e} q = some_lead (λ i. ServicesRefused i n bs e) i led (λ j. led_refused_at n bs size j q)

    module _ {xs rest : List ℕ} (q : several read_service k bs ≡ got xs rest) where
      pub none_refused : no_service xs ≡ true → ServicesRefused i n bs 11
      none_refused t = some_lead (λ i. ServicesRefused i n bs 11) i led (λ j. none_refused_at n bs size q j t)

      pub some_taken : no_service xs ≡ false → ServicesTaken i n bs rest
      some_taken t = some_lead (λ i. ServicesTaken i n bs rest) i led (λ j. some_taken_at n bs size q j t)
