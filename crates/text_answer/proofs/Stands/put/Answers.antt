-- The verdict's line, and behind it the list's. That there is room goes by the word's length alone.
use Rattle.std.proofs.Common.{◌≤◌, List, ℕ, [], ◌∷◌, length, arith, length-append, length-take, length-drop}
use Rattle.lists.proofs.FrontLaws.{Room, first_fits, put_within, put_room, put_on_lem}
use Rattle.text_lines.specs.Lines.{line}
use Rattle.text_lines.proofs.LineLaws.{line_length}
use Rattle.text_answer.specs.Text.{verdict_word, struck_word, stands_text}
use Rattle.text_answer.proofs.Stands.put.Goals as goal

struck-room : (struck out : List ℕ) → length (stands_text struck) ≤ length out → Room (line verdict_word (0 ∷ [])) (line struck_word struck) out
unfolding stands_text
struck-room struck out h = record { fits = h }

pub put-at-requires : goal.put-at-requires
put-at-requires c = first_fits (struck-room _ _ c.requires)

pub slice_bounds-put-count : goal.slice_bounds-put-count
slice_bounds-put-count c = put_within (struck-room _ _ c.requires) c.put-at.ensures

pub put-requires : goal.put-requires
put-requires c =
    simp length-append (omega (arith, put_room (struck-room _ _ c.requires) c.put-at.ensures, line_length struck_word c.args.self.now.struck.now))

pub overflow_add-result : goal.overflow_add-result
overflow_add-result c =
    let R = struck-room _ _ c.requires in
    let room = simp (length-take, length-drop) at (put_room R c.put-at.ensures) in
    omega (arith, put_within R c.put-at.ensures, room, line_length struck_word c.args.self.now.struck.now, simp length-append at c.put.ensures.0)

pub returns : goal.returns
unfolding stands_text
returns c = put_on_lem (struck-room _ _ c.requires) c.put-at.ensures c.put.ensures
