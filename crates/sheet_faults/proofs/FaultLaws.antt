-- The faults of a draft, part by part: a part that is refused decides, and one that is passed leaves what comes behind it to decide. Assumes nothing.
use Prim.Native.Nat.{ℕ, zero, suc, ◌<◌}
use mathlib.Core.Path.{◌≡◌, refl, sym, ap, ◌∙◌}
use mathlib.Core.Bool.{Bool, true, false, ◌&&◌}
use mathlib.Core.List.{List, [], ◌∷◌, ◌++◌}
use native.Mathlib.Omega.{arith}
use lib.ListN.{length, get_or}
use Rattle.std.specs.List.{fold}
use Rattle.varint.specs.declared.refusal.Refusal.{Refusal}
use Rattle.varint.specs.Refusal.{number_of}
use Rattle.varint.proofs.RefusalLaws.{no_refusal}
use Rattle.sheet.specs.Writer.{fault, first_of, arc_fault, arcs_fault, each_fault}

-- the first of two: the first where it is one, else the second
pub stop : (why : Refusal) (a b : ℕ) → number_of why ≡ a → number_of why ≡ first_of a b
unfolding first_of
stop why zero b e = absurd (no_refusal why e)
stop why (suc a) b e = e

pub go : (a b r : ℕ) → 0 ≡ a → r ≡ b → r ≡ first_of a b
unfolding first_of
go zero b r e q = q
go (suc a) b r e q = absurd (omega arith)

-- two parts that are judged in one
pub stop_both : (why : Refusal) (a b c : ℕ) → number_of why ≡ first_of a b → number_of why ≡ first_of a (first_of b c)
unfolding first_of
stop_both why zero b c e = stop why b c e
stop_both why (suc a) b c e = e

pub go_both : (a b c r : ℕ) → 0 ≡ first_of a b → r ≡ c → r ≡ first_of a (first_of b c)
unfolding first_of
go_both zero b c r e q = go b c r e q
go_both (suc a) b c r e q = absurd (omega arith)

-- three numbers, and those behind them
pub arc_first :
    (n : ℕ) (xs ys : List ℕ) → length xs ≡ 3
    → arcs_fault n (xs ++ ys) ≡ first_of (arc_fault n (get_or xs 0 0) (get_or xs 1 0) (get_or xs 2 0)) (arcs_fault n ys)
unfolding arcs_fault
arc_first n [] ys h = absurd (omega arith)
arc_first n (t ∷ []) ys h = absurd (omega arith)
arc_first n (t ∷ x ∷ []) ys h = absurd (omega arith)
arc_first n (t ∷ x ∷ w ∷ []) ys h = refl
arc_first n (t ∷ x ∷ w ∷ z ∷ xs) ys h = absurd (omega arith)

-- the arcs that are left decide of all; the first of them is judged
module _ (n whole : ℕ) (left xs ys : List ℕ) (h : whole ≡ arcs_fault n left) (e : left ≡ xs ++ ys) (l : length xs ≡ 3) where
  pub arc_wrong : (why : Refusal) → number_of why ≡ arc_fault n (get_or xs 0 0) (get_or xs 1 0) (get_or xs 2 0) → number_of why ≡ whole
  arc_wrong why f = stop why _ (arcs_fault n ys) f ∙ sym (h ∙ ap (arcs_fault n) e ∙ arc_first n xs ys l)

  pub arc_fine : 0 ≡ arc_fault n (get_or xs 0 0) (get_or xs 1 0) (get_or xs 2 0) → whole ≡ arcs_fault n ys
  arc_fine f = h ∙ ap (arcs_fault n) e ∙ arc_first n xs ys l ∙ sym (go _ (arcs_fault n ys) (arcs_fault n ys) f refl)

fewer_than_three : (n : ℕ) (xs : List ℕ) → length xs < 3 → arcs_fault n xs ≡ 0
unfolding arcs_fault
fewer_than_three n [] k = refl
fewer_than_three n (t ∷ []) k = refl
fewer_than_three n (t ∷ x ∷ []) k = refl
fewer_than_three n (t ∷ x ∷ w ∷ xs) k = absurd (omega arith)

pub no_arc_left : (n whole : ℕ) (left : List ℕ) → whole ≡ arcs_fault n left → length left < 3 → 0 ≡ whole
no_arc_left n whole left h l = sym (h ∙ fewer_than_three n left l)

-- the numbers are judged by one test, those before them being all fine or not
fold_from : (ok : ℕ → Bool) (t : Bool) (xs : List ℕ) → first_of (fault 11 t) (each_fault ok xs) ≡ fault 11 (fold (λ all x. all && ok x) t xs)
unfolding each_fault fault first_of
fold_from ok true [] = refl
fold_from ok false [] = refl
fold_from ok true (x ∷ xs) = fold_from ok (ok x) xs
fold_from ok false (x ∷ xs) = fold_from ok false xs

each_fold : (ok : ℕ → Bool) (xs : List ℕ) → each_fault ok xs ≡ fault 11 (fold (λ all x. all && ok x) true xs)
unfolding fault first_of
each_fold ok xs = fold_from ok true xs

module _ (ok : ℕ → Bool) (xs : List ℕ) {all : Bool} (e : all ≡ fold (λ all x. all && ok x) true xs) where
  pub each_fine : all ≡ true → 0 ≡ each_fault ok xs
  unfolding fault
  each_fine t = sym (rw (each_fold ok xs, ← e, t))

  pub each_wrong : all ≡ false → 11 ≡ each_fault ok xs
  unfolding fault
  each_wrong t = sym (rw (each_fold ok xs, ← e, t))
