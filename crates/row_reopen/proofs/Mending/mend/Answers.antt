-- `row_reopen::Mending::mend` meets its contract: a row of which the arc can cut no entry is left, and else it is kept before it is mended. Assumes nothing.
use Prim.Native.Nat.{ℕ, ◌+◌, ◌*◌, ◌-◌}
use mathlib.Core.Path.{◌≡◌, refl, ap, ◌∙◌}
use native.Mathlib.Omega.{arith}
use borrow.Rule.Slice.PartMut.{mid_len, post_of}
use lib.ListN.{length, drop}
use Rattle.row_reopen.specs.Openings.{left, mended}
use Rattle.row_reopen.proofs.SavesLaws.{part_row, row_kept, row_there, row_written}
use Rattle.row_reopen.proofs.Mending.mend.Goals as goal

pub returns-then-not-may_cut : goal.returns-then-not-may_cut
returns-then-not-may_cut c =
    let f = (rw (part_row c.args.work.now c.args.row) at c.may_cut.ensures).0 c.if-not-may_cut.true in
    record { row_kept_if_cut = left f.0 f.1; row_mended = (λ N A h M k. k f.0 f.1, λ v a. refl) }

pub arcs-requires : goal.arcs-requires
arcs-requires c = omega (arith, c.requires.shaped.0.room)

pub mend_row-requires : goal.mend_row-requires
mend_row-requires c =
    let s = c in
    let i = s.args.row in
    let mid = c.keep_row.new.work in record {
      arcs_chained = (rw c.arcs.ensures s.requires.shaped.0.joins, rw c.arcs.ensures s.requires.shaped.0.chained);
      row_and_start_fit = (mid_len (i * 64) (i * 64 + 64) mid (omega (arith, c.keep_row.auto.work)) ∙ omega arith, s.requires.start_and_change_fit.0, s.requires.start_and_change_fit.1);
    }

pub returns : goal.returns
returns c =
    let s = c in
    let i = s.args.row in
    let at = i * 64 in
    let work = s.args.work.now in
    let mid = c.keep_row.new.work in
    let t = c.mend_row in
    let ys = t.new.row in
    let zs = post_of at (at + 64 - at) mid in
    let k : at + 64 - at ≡ 64 = omega arith in
    let long : length mid ≡ 3648 = c.keep_row.auto.work ∙ s.requires.shaped.2 in
    let size : length ys ≡ 64 = t.auto.row ∙ mid_len at (at + 64) mid (omega arith) ∙ k in
    let rest : zs ≡ drop 64 (drop at mid) = ap (λ (m : ℕ). drop m (drop at mid)) k in
    let P = c.keep_row.ensures in
    let w = row_written i work mid ys zs s.requires.shaped.1 s.requires.shaped.2 long size rest P in
    let e = row_there i work mid ys zs s.requires.shaped.1 s.requires.shaped.2 long size rest P in
    let f = rw (part_row work i) at c.may_cut.ensures in
    let M = rw c.arcs.ensures at t.ensures in record {
      row_kept_if_cut = rw c.with.ensures (mended (f.1 c.if-not-may_cut.false) (row_kept i work mid ys zs s.requires.shaped.1 s.requires.shaped.2 long size rest P));
      row_mended = (λ N A h m _. rw w (M.0 N A (rw e h) (rw e m)), rw (w, ← e) M.1);
    }
