-- The slack has room, and each line behind it, since all lines have.
use Rattle.std.proofs.Common.{◌≡◌, ap, ◌∙◌, ℕ, ◌+◌, ◌≤◌, ◌<◌, List, ◌++◌, length, take, get_or, arith, length-append, append_assoc, append-nil}
use Rattle.std.proofs.lemmas.Grind.{flat_map-append}
use Rattle.std.proofs.lemmas.List.Folds.{length-flat_map-take}
use Rattle.std.proofs.Math.Seq.{take-suc}
use Rattle.std.specs.List.{flat_map}
use Rattle.std.specs.declared.option.Option.{Option}
use Rattle.std.specs.declared.option.Option.TheVariants.{None}
use native.Mathlib.Numerals.{add-one}
use Rattle.lists.proofs.FrontLaws.{Room, first_fits, put_within, put_room, put_end, put_on_lem}
use Rattle.cost_lines.specs.Ask.{line_of}
use Rattle.cost_lines.proofs.Costs.put.Goals as goal

module _ (slack : List ℕ) (opened : List (Option ℕ)) (out : List ℕ) (fits : length (slack ++ flat_map line_of opened) ≤ length out) where
  lines-room : Room slack (flat_map line_of opened) out
  lines-room = record { fits = fits }

  -- the next line, behind the slack and the lines before it
  module _ (i : ℕ) (h : i < length opened) where
    next-room : Room (slack ++ flat_map line_of (take i opened)) (line_of (get_or opened i None)) out
    next-room = record { fits = simp length-append (omega (arith, fits, length-append slack (flat_map line_of opened), length-flat_map-take line_of opened i None h)) }

    more : (slack ++ flat_map line_of (take i opened)) ++ line_of (get_or opened i None) ≡ slack ++ flat_map line_of (take (i + 1) opened)
    more =
        append_assoc slack (flat_map line_of (take i opened)) (line_of (get_or opened i None))
        ∙ ap (λ l. slack ++ l) (rw (add-one i, take-suc opened i None h, flat_map-append, append-nil))

pub put-at-requires : goal.put-at-requires
put-at-requires g c = first_fits (lines-room _ c.args.self.now.opened.items _ c.requires)

pub loop-length-init : goal.loop-length-init
loop-length-init g c = rw append-nil c.put-at.ensures

pub slice_bounds-put-count : goal.slice_bounds-put-count
slice_bounds-put-count g c =
    let e = c.as_slice-length-items.ensures.value in
    put_within (next-room _ c.args.self.now.opened.items _ c.requires c.loop-length.length-index (omega (arith, c.loop-length-test.true, ap length e))) c.loop-length.invariant

pub put-at-requires-in-loop-length : goal.put-at-requires-in-loop-length
put-at-requires-in-loop-length g c =
    let e = c.as_slice-length-items.ensures.value in
    rw e (put_room (next-room _ c.args.self.now.opened.items _ c.requires c.loop-length.length-index (omega (arith, c.loop-length-test.true, ap length e))) c.loop-length.invariant)

pub overflow_add-at : goal.overflow_add-at
overflow_add-at g c =
    let e = c.as_slice-length-items.ensures.value in
    let next = next-room _ c.args.self.now.opened.items _ c.requires c.loop-length.length-index (omega (arith, c.loop-length-test.true, ap length e)) in
    omega (arith, put_end next c.loop-length.invariant (rw e at c.put-at-in-loop-length.ensures))

pub loop-length-preserved : goal.loop-length-preserved
loop-length-preserved g c =
    let e = c.as_slice-length-items.ensures.value in
    let h : c.loop-length.length-index < length c.args.self.now.opened.items = omega (arith, c.loop-length-test.true, ap length e) in
    let next = next-room _ c.args.self.now.opened.items _ c.requires c.loop-length.length-index h in
    rw (← more _ c.args.self.now.opened.items _ c.requires c.loop-length.length-index h) (put_on_lem next c.loop-length.invariant (rw e at c.put-at-in-loop-length.ensures))
