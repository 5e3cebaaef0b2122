-- A slip written reads back as its numbers, and is short. Assumes nothing.
use Prim.Native.Nat.{ℕ, ◌+◌, ◌≤◌, ◌<◌}
use mathlib.Core.Path.{◌≡◌, sym, ap, ◌∙◌}
use mathlib.Core.Bool.{◌&&◌}
use mathlib.Core.List.{List, [], ◌∷◌, ◌++◌, append-nil, append_assoc}
use native.Mathlib.Omega.{arith}
use lib.ListN.{length, length-append}
use lib.Dec.{leb}
use borrow.Author.Tests.{le-leb, leb-true}
use Rattle.lists.proofs.Pigeonhole.{Below, below_append, below_le}
use Rattle.lists.proofs.TestLaws.{true_and, and_true}
use Rattle.varint.proofs.VarintLaws.{number_back, numbers_back, numbers_size, got_number, after_got, number_got}
use Rattle.lists.proofs.RowLaws.{rows_append}
use Rattle.varint.proofs.WriteLaws.{numbers_rows}
use Rattle.varint.specs.Varint.{got, after, read_number, number, write_number, write_numbers, refuse, Read}
use Rattle.sheet.specs.Slip.{Slip, slip_numbers, slip_bytes, read_list, slip_end, slip_reasons, slip_goals, as17, read_slip}

-- a slip as pass and reason write it: at most eight goals and 576 reasons
pub record Small (s : Slip) : Type 0 where
  pub low : 1 ≤ s.first
  pub high : s.first ≤ 4
  pub few : length s.goals ≤ 8
  pub goals : Below 16384 s.goals
  pub many : length s.reasons ≤ 576
  pub reasons : Below 16384 s.reasons

pub numbers_below : (s : Slip) → Small s → Below 16384 (slip_numbers s)
unfolding slip_numbers
numbers_below s b = (
  omega (arith, b.high),
  (
    omega (arith, b.few),
    below_append 16384 s.goals _ b.goals (omega (arith, b.few, b.many), b.reasons),
  ),
)

-- the slip of a refused round or a pruned item has at most 1,200 bytes, each a byte
pub slip_size : (s : Slip) → Small s → (length (slip_bytes s) ≤ 1200) × Below 256 (slip_bytes s)
unfolding slip_bytes slip_numbers
slip_size s b =
    let n = numbers_size (slip_numbers s) (numbers_below s b) in
    let l : length (slip_numbers s) ≡ length s.goals + length s.reasons + 3 = simp length-append (omega arith) in
    (omega (arith, n.0, l, b.few, b.many), n.1)

-- a count and as many numbers read back
list_back : (xs t : List ℕ) → length xs < 268435456 → Below 268435456 xs → read_list (write_numbers (length xs ∷ xs) ++ t) ≡ got xs t
unfolding read_list write_numbers after
list_back xs t h b = rw (append_assoc, number_back (length xs) (write_numbers xs ++ t) h) (numbers_back xs t b)

-- a slip written reads back as its numbers
pub slip_back : (s : Slip) → Small s → read_slip (slip_bytes s) ≡ got s []
unfolding read_slip slip_bytes slip_numbers as17 slip_goals slip_reasons slip_end after
slip_back s b =
    let g : Below 268435456 s.goals = below_le 16384 268435456 s.goals (omega arith) b.goals in
    let r : Below 268435456 s.reasons = below_le 16384 268435456 s.reasons (omega arith) b.reasons in
    let tail : List ℕ = write_numbers (length s.reasons ∷ s.reasons) in
    let e : slip_bytes s ≡ write_number s.first ++ (write_numbers (length s.goals ∷ s.goals) ++ tail) =
    unfold slip_bytes slip_numbers write_numbers in ap (λ (bs : List ℕ). write_number s.first ++ bs) (rows_append numbers_rows (length s.goals ∷ s.goals) (length s.reasons ∷ s.reasons)) in
    let first : number 17 (λ x. leb 1 x && leb x 4) (slip_bytes s) ≡ got s.first (write_numbers (length s.goals ∷ s.goals) ++ tail) =
    got_number 17 (λ x. leb 1 x && leb x 4) (slip_bytes s) s.first (write_numbers (length s.goals ∷ s.goals) ++ tail)
    (ap read_number e ∙ number_back s.first (write_numbers (length s.goals ∷ s.goals) ++ tail) (omega (arith, b.high)))
    (true_and (le-leb 1 s.first b.low) (le-leb s.first 4 b.high)) in
    let end : read_list tail ≡ got s.reasons [] =
    ap read_list (sym (append-nil tail)) ∙ list_back s.reasons [] (omega (arith, b.many)) r in
    rw (first, list_back s.goals tail (omega (arith, b.few)) g, end)

kept_of : (r : Read Slip) (s : Slip) (rest : List ℕ) → as17 r ≡ got s rest → r ≡ got s rest
unfolding as17
kept_of (got x bs) s rest e = e
kept_of (refuse w) s rest e = absurd (let z : ◌≡◌ {A = ℕ} 0 1 = cc in omega arith)

end_of : (s s' : Slip) (bs rest : List ℕ) → slip_end s bs ≡ got s' rest → (s ≡ s') × (rest ≡ [])
unfolding slip_end
end_of s s' [] rest e = (cc, cc)
end_of s s' (b ∷ bs) rest e = absurd (let z : ◌≡◌ {A = ℕ} 0 1 = cc in omega arith)

firsts : (v : ℕ) (bs : List ℕ) (s : Slip) (rest : List ℕ) → slip_goals v bs ≡ got s rest → (s.first ≡ v) × (rest ≡ [])
unfolding slip_goals slip_reasons
firsts v bs s rest e =
    let a = after_got (read_list bs) (slip_reasons v) s rest e in
    let b = after_got (read_list a.1) (λ rs. slip_end (record { first = v; goals = a.0; reasons = rs })) s rest a.3 in
    let c = end_of (record { first = v; goals = a.0; reasons = b.0 }) s b.1 rest b.3 in
    (ap (λ (s : Slip). s.first) (sym c.0), c.1)

-- a slip that was read has a first number of 1 to 4, and nothing is left
pub slip_read : (bs : List ℕ) (s : Slip) (rest : List ℕ) → read_slip bs ≡ got s rest → (1 ≤ s.first) × (s.first ≤ 4) × (rest ≡ [])
unfolding read_slip
slip_read bs s rest e =
    let a = after_got (number 17 (λ x. leb 1 x && leb x 4) bs) slip_goals s rest (kept_of (after (number 17 (λ x. leb 1 x && leb x 4) bs) slip_goals) s rest e) in
    let p = and_true (leb 1 a.0) (leb a.0 4) (number_got 17 (λ x. leb 1 x && leb x 4) bs a.0 a.1 a.2).0 in
    let f = firsts a.0 a.1 s rest a.3 in
    (rw f.0 (leb-true 1 a.0 p.0), rw f.0 (leb-true a.0 4 p.1), f.1)
