-- What the check does not find of `fill_rows`: one row more is filled, and the others are as they were.
use mathlib.Core.Path.{◌≡◌, ap, ◌∙◌}
use Prim.Native.Nat.{ℕ, ◌+◌, ◌*◌, ◌-◌, ◌≤◌}
use native.Mathlib.Omega.{arith}
use lib.ListN.{length, drop}
use borrow.Rule.Slice.PartMut.{mid_len, post_of}
use Rattle.rows.proofs.WorkLaws.{rows_more, rest_more, away_more}
use Rattle.row_fill.proofs.fill_rows.Goals as goal

pub loop-number-preserved : goal.loop-number-preserved
loop-number-preserved c =
    let s = c in
    let l = c.loop-number in
    let t = c.fill_row in
    let h = c.loop-number-test.true in
    let at = l.number * 64 in
    let k : at + 64 - at ≡ 64 = omega arith in
    let room : at + 64 ≤ length l.work = omega (arith, s.requires.1.room) in
    let ys = t.new.row in
    let zs = post_of at (at + 64 - at) l.work in
    let long : length ys ≡ 64 = t.auto.row ∙ mid_len at (at + 64) l.work room ∙ k in (
      rest_more l.number l.work ys zs room long s.args.work.now (ap (λ (n : ℕ). drop n (drop at l.work)) k) l.invariant.0,
      λ N S.
          rows_more l.number l.work ys zs room long N s.args.cap s.args.starts.now S.proper.few
          (t.ensures.least_lengths N (record { proper = S.proper; marked = S.marked; packed = S.packed; node = S.nodes l.number h })) (l.invariant.1 N S),
      away_more l.number l.work ys zs room long s.args.arcs.now s.args.starts.now t.ensures.away_missing l.invariant.2,
    )
