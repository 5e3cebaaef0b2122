-- The verdict's line, the goals' and behind them the reasons'.
use Rattle.std.proofs.Common.{◌≤◌, List, ℕ, [], ◌∷◌, ◌++◌, length, arith}
use Rattle.lists.proofs.FrontLaws.{Room, room_before, first_fits, put_within, put_room, put_end, put_on_lem}
use Rattle.slip_reader.specs.Form.{slip_from}
use Rattle.text_lines.specs.Lines.{line}
use Rattle.text_answer.specs.Text.{verdict_word, needs_word, because_word, blame_text}
use Rattle.text_answer.proofs.Blames.put.Goals as goal

-- the room that is left behind the first line, and behind the first two
module _ (first : ℕ) (needs because out : List ℕ) (fits : length (blame_text (slip_from first needs because)) ≤ length out) where
  because-room : Room (line verdict_word (first ∷ []) ++ line needs_word needs) (line because_word because) out
  unfolding blame_text
  because-room = record { fits = fits }

  needs-room : Room (line verdict_word (first ∷ [])) (line needs_word needs) out
  needs-room = room_before because-room

pub put-at-requires : goal.put-at-requires
put-at-requires c = first_fits (needs-room _ _ _ _ c.requires)

pub slice_bounds-put-count : goal.slice_bounds-put-count
slice_bounds-put-count c = put_within (needs-room _ _ _ _ c.requires) c.put-at.ensures

pub put-requires : goal.put-requires
put-requires c = put_room (needs-room _ _ _ _ c.requires) c.put-at.ensures

pub overflow_add-end : goal.overflow_add-end
overflow_add-end c = omega (arith, put_end (needs-room _ _ _ _ c.requires) c.put-at.ensures c.put.ensures)

pub slice_bounds-put-count-2 : goal.slice_bounds-put-count-2
slice_bounds-put-count-2 c = put_within (because-room _ _ _ _ c.requires) (put_on_lem (needs-room _ _ _ _ c.requires) c.put-at.ensures c.put.ensures)

pub put-requires-2 : goal.put-requires-2
put-requires-2 c = put_room (because-room _ _ _ _ c.requires) (put_on_lem (needs-room _ _ _ _ c.requires) c.put-at.ensures c.put.ensures)

pub overflow_add-result : goal.overflow_add-result
overflow_add-result c = omega (arith, put_end (because-room _ _ _ _ c.requires) (put_on_lem (needs-room _ _ _ _ c.requires) c.put-at.ensures c.put.ensures) c.put-2.ensures)

pub returns : goal.returns
unfolding blame_text
returns c = put_on_lem (because-room _ _ _ _ c.requires) (put_on_lem (needs-room _ _ _ _ c.requires) c.put-at.ensures c.put.ensures) c.put-2.ensures
