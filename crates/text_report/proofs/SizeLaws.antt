-- The text of a sheet has at most 8,192 bytes. Assumes nothing.
use Prim.Native.Nat.{ℕ, zero, suc, ◌≤◌, ◌<◌}
use mathlib.Core.Path.{◌≡◌, refl}
use mathlib.Core.List.{List, [], ◌∷◌}
use mathlib.Core.Bool.{◌&&◌}
use native.Mathlib.Omega.{arith}
use native.Mathlib.Decide.{dec_lt}
use lib.ListN.{length, get_or}
use lib.Dec.{eqb}
use Rattle.lists.specs.Lists.{span}
use Rattle.lists.proofs.AscendLaws.{keep_ascends, ascends_distinct, span_member}
use Rattle.lists.proofs.MemberLaws.{keep_member}
use Rattle.lists.proofs.Pigeonhole.{Below, below_all, below_le, pigeonhole}
use Rattle.sheet.specs.Answer.{Answer, finished, refused}
use Rattle.pass_rules.specs.Pass.{pass_on, verdict_in, mark_in}
use Rattle.text_answer.specs.Text.{newly_forbidden, blamed, slip_text, text, answer}
use Rattle.text_answer.proofs.SizeLaws.{stands_size, blame_size, refused_size}
use Rattle.text_report.proofs.AnswerLaws.{answer_finishes}
use Rattle.text_report.proofs.SlipTextLaws.{passed_slip, stands_is, blame_is, blamed_text}

-- the items newly forbidden are items, each once
pub newly_below : (ms slip : List ℕ) → Below (length ms) (newly_forbidden ms slip)
unfolding newly_forbidden
newly_below ms slip =
    below_all (length ms) (newly_forbidden ms slip)
    (λ x m. let s = span_member (length ms) 0 x (keep_member _ x (span (length ms) 0) m).0 in omega (arith, s.1))

below_at : (n : ℕ) (xs : List ℕ) → Below n xs → (k d : ℕ) → k < length xs → get_or xs k d < n
below_at n [] b k d h = absurd (omega arith)
below_at n (x ∷ xs) b zero d h = b.0
below_at n (x ∷ xs) b (suc k) d h = below_at n xs b.1 k d (omega arith)

-- so that 32 bits hold each
pub newly_short : (ms slip : List ℕ) → length ms ≤ 576 → (k d : ℕ) → k < length (newly_forbidden ms slip) → get_or (newly_forbidden ms slip) k d < 4294967296
newly_short ms slip few k d h = omega (arith, few, below_at (length ms) _ (newly_below ms slip) k d h)

newly_few : (ms slip : List ℕ) → length (newly_forbidden ms slip) ≤ length ms
unfolding newly_forbidden
newly_few ms slip =
    pigeonhole (length ms) (newly_forbidden ms slip)
    (ascends_distinct (newly_forbidden ms slip) (keep_ascends (λ i. eqb (get_or ms i 0) 0 && eqb (mark_in slip i) 2) (length ms) 0)) (newly_below ms slip)

slip_text_size : (sheet slip : List ℕ) → pass_on sheet ≡ finished slip → length (slip_text sheet slip) ≤ 8192
unfolding blamed
slip_text_size sheet slip e = go (dec_lt 0 (verdict_in slip))
  where
    go : Dec (0 < verdict_in slip) → length (slip_text sheet slip) ≤ 8192
    go (no p) =
        let z : verdict_in slip ≡ 0 = omega arith in
        let P = passed_slip sheet slip e in
        let T = stands_is sheet slip P.read.marks P.read e z P.took refl in
        let n = newly_few P.read.marks slip in
        rw T.printed (stands_size _ (below_le (length P.read.marks) 4294967296 _ (omega (arith, T.few)) (newly_below P.read.marks slip)) (omega (arith, n, T.few)))
    go (yes p) =
        let z : verdict_in slip ≡ 0 → ⊥ = λ q. omega (arith, p, q) in
        let B = blame_is sheet slip e z in
        rw (blamed_text sheet slip z, B.says)
        (blame_size B.read (below_le 16384 4294967296 B.read.goals (omega arith) B.small.goals) (below_le 16384 4294967296 B.read.reasons (omega arith) B.small.reasons) B.small.few B.small.many)

pub text_size : (sheet work : List ℕ) → length (text sheet (answer sheet work)) ≤ 8192
unfolding text
text_size sheet work = go (answer sheet work) (λ bs e. answer_finishes sheet work bs e)
  where
    go : (a : Answer) → ((bs : List ℕ) → a ≡ finished bs → pass_on sheet ≡ finished bs) → length (text sheet a) ≤ 8192
    go (finished bs) f = slip_text_size sheet bs (f bs refl)
    go (refused w) f = refused_size w
