-- What a call that writes a slip left, told by the number that it gave: the refusal, or the bytes in front. Assumes nothing.
use Prim.Native.Nat.{ℕ, ◌≤◌, ◌<◌}
use mathlib.Core.Path.{◌≡◌, refl, sym, ap, ◌∙◌}
use mathlib.Core.List.{List}
use native.Mathlib.Omega.{arith}
use lib.ListN.{length, take, drop, length-append}
use lib.Seq.{take_at}
use Rattle.lists.specs.Lists.{front}
use Rattle.sheet.specs.Answer.{Answer, finished, refused, Wrote, wrote}
use Rattle.pass_rules.proofs.WithinLaws.{Within}
use Rattle.pass_rules.specs.Pass.{Outcome, outcome}

-- it refused
pub record Refused (a : Answer) (n : ℕ) : Type 0 where
  pub high : n ≤ 16
  pub is : a ≡ refused n

-- it finished, with the first l bytes of the slice
pub record Finished (a : Answer) (s : List ℕ) (l : ℕ) : Type 0 where
  pub is : a ≡ finished (take l s)
  pub within : l ≤ length s
  pub size : l ≡ length (take l s)

module _ (a : Answer) (d : List ℕ) (n l : ℕ) (s : List ℕ) (e : record { number = n; length = l; out = s } ≡ wrote a d) (w : Within a) where
  pub refused_call : 0 < n → Refused a n
  unfolding wrote
  refused_call h = go a refl w (ap (λ (o : Wrote). o.number) e)
    where
      go : (b : Answer) → a ≡ b → Within b → n ≡ (wrote b d).number → Refused a n
      go (finished bs) q v z = absurd (omega (arith, z))
      go (refused x) q v z = record { high = omega (arith, z, v.1); is = q ∙ ap refused (sym z) }

  pub finished_call : n ≤ 0 → Finished a s l
  unfolding wrote
  finished_call h = go a refl w e
    where
      go : (b : Answer) → a ≡ b → Within b → record { number = n; length = l; out = s } ≡ wrote b d → Finished a s l
      go (refused x) q v z = absurd (omega (arith, ap (λ (o : Wrote). o.number) z, v.0))
      go (finished bs) q v z =
          let k : l ≡ length bs = ap (λ (o : Wrote). o.length) z in
          let f : s ≡ front bs d = ap (λ (o : Wrote). o.out) z in
          let t : take l s ≡ bs = rw f (take_at bs _ l (sym k)) in
          record {
            is = q ∙ ap finished (sym t);
            within = omega (arith, k, ap length f ∙ length-append bs (drop (length bs) d));
            size = k ∙ ap length (sym t);
          }

-- a call that is lent work too left the same in its slip
pub outcome_wrote : (a : Answer) (work d : List ℕ) {n l : ℕ} {w s : List ℕ} → record { number = n; length = l; work = w; slip = s } ≡ outcome a work d
    → record { number = n; length = l; out = s } ≡ wrote a d
unfolding outcome wrote
outcome_wrote a work d e = ap {B = Wrote} (λ (o : Outcome). record { number = o.number; length = o.length; out = o.slip }) e ∙ go a
  where
    go : (b : Answer) → record { number = (outcome b work d).number; length = (outcome b work d).length; out = (outcome b work d).slip } ≡ wrote b d
    go (finished bs) = refl
    go (refused x) = refl
