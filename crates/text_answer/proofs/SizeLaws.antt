-- How long the texts are, and a text in front as a part of what it was written over. Assumes nothing.
use Rattle.std.proofs.Common.{◌≡◌, sym, ap, ◌∙◌, ℕ, ◌≤◌, List, [], ◌∷◌, ◌++◌, length, take, drop, arith}
use lib.ListN.{length-append}
use lib.Seq.{take_at}
use Rattle.lists.specs.Lists.{front}
use Rattle.lists.proofs.Pigeonhole.{Below}
use Rattle.sheet.specs.Slip.{Slip}
use Rattle.text_lines.specs.Lines.{line}
use Rattle.text_lines.proofs.LineLaws.{line_size, one_size}
use Rattle.text_answer.specs.Text.{verdict_word, struck_word, needs_word, because_word, refused_word, stands_text, blame_text, refused_text}

-- at most 576 items, of at most ten digits each, leave room in 8,192 bytes
pub stands_size : (xs : List ℕ) → Below 4294967296 xs → length xs ≤ 576 → length (stands_text xs) ≤ 8192
unfolding stands_text
stands_size xs b h =
    rw (length-append (line verdict_word (0 ∷ [])) (line struck_word xs))
    (omega (arith, one_size verdict_word 0, line_size struck_word xs b))

pub blame_size : (s : Slip) → Below 4294967296 s.goals → Below 4294967296 s.reasons → length s.goals ≤ 8 → length s.reasons ≤ 576 → length (blame_text s) ≤ 8192
unfolding blame_text
blame_size s b c g h =
    rw (length-append (line verdict_word (s.first ∷ []) ++ line needs_word s.goals) (line because_word s.reasons), length-append (line verdict_word (s.first ∷ [])) (line needs_word s.goals))
    (omega (arith, one_size verdict_word s.first, line_size needs_word s.goals b, line_size because_word s.reasons c))

pub refused_size : (e : ℕ) → length (refused_text e) ≤ 8192
unfolding refused_text
refused_size e = omega (arith, one_size refused_word e)

-- a text in front of `out` is a part of it
pub within : (bs d out : List ℕ) (r : ℕ) → r ≡ length bs → out ≡ front bs d → (r ≤ length out) × (r ≡ length (take r out))
within bs d out r e h =
    let t : take r out ≡ bs = rw h (take_at bs (drop (length bs) d) r (sym e)) in
    (omega (arith, e, ap length h ∙ length-append bs (drop (length bs) d)), e ∙ ap length (sym t))
