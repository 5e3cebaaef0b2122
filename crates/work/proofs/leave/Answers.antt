-- `leave` zeroes from the front on. Assumes nothing.
use Rattle.std.proofs.Common.{◌≡◌, ◌<◌, ℕ, zero, suc, List, [], ◌∷◌, ◌++◌, length, replicate, drop, refl, ap, arith, add-one, slice_set}
use Rattle.work.proofs.leave.Goals as goal

filled_more : {A : Type 0} (n : ℕ) (z : A) (xs : List A) → n < length xs → slice_set (replicate n z ++ drop n xs) n z ≡ replicate (suc n) z ++ drop (suc n) xs
filled_more n z [] h = absurd (omega arith)
filled_more zero z (x ∷ xs) h = refl
filled_more (suc n) z (x ∷ xs) h = ap (λ l. z ∷ l) (filled_more n z xs (omega arith))

pub loop-i-preserved : goal.loop-i-preserved
loop-i-preserved g c =
    let h = c.requires in
    let e = filled_more c.loop-i.i g.T.Cell.ZERO c.args.work.now (omega arith) in
    (rw (c.loop-i.invariant.0, c.ZERO.ensures, add-one) e, c.ASKED-i-end.ensures)
