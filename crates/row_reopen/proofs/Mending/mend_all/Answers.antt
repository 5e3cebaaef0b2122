-- What the invariant does not show of `mend_all` by itself.
use mathlib.Core.Path.{◌≡◌, ◌∙◌}
use Prim.Native.Nat.{◌<◌}
use lib.ListN.{length}
use native.Mathlib.Omega.{arith}
use Rattle.row_reopen.specs.Openings.{change_is}
use Rattle.row_reopen.proofs.SavesLaws.{saves_more, spared_more, row_begun, away_before, rows_before}
use Rattle.row_reopen.proofs.Mending.mend_all.Goals as goal

pub loop-row-preserved : goal.loop-row-preserved
loop-row-preserved c =
    let s = c.requires in
    let l = c.loop-row in
    let t = c.mend-kept in
    let cap = c.args.self.now.cap in
    let C = change_is c.args.self.now.change in
    let work = c.args.work.now in
    let starts = c.args.starts.now in
    let h = c.loop-row-test.true in
    let few : l.row < 9 = omega (arith, s.shaped_with_starts.2, h) in
    let long = s.shaped_with_starts.3 in
    let long' = l.invariant.0 ∙ long in
    let e = row_begun cap C work few long long' l.invariant.1 in (
      t.auto.work ∙ l.invariant.0,
      saves_more cap C work few long long' l.invariant.1 t.ensures.row_kept_if_cut,
      λ N A b m k.
          rows_before cap C work few long long' l.invariant.1 t.ensures.row_kept_if_cut N starts A.proper.few
          (t.ensures.row_mended.0 N (record { proper = A.proper; marked = A.marked; packed = A.packed; node = A.nodes l.row h }) (rw e (b l.row h)) (rw e (m l.row h))
          (rw e (k l.row h))) (l.invariant.2 N A b m k),
      away_before cap C work few long long' l.invariant.1 t.ensures.row_kept_if_cut _ starts t.ensures.row_mended.1 l.invariant.3,
      spared_more cap C work few long long' l.invariant.1 t.ensures.row_kept_if_cut l.invariant.4,
    )

pub returns-clause-rows_mended : goal.returns-clause-rows_mended
returns-clause-rows_mended c N A b m k =
    let l = c.loop-row in
    let q : l.row ≡ length c.args.starts.now = omega arith in
    rw q at (l.invariant.2 N A b m k)
