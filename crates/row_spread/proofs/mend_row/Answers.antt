-- `row_spread::mend_row` meets its contract: a sound row whose start is set is good, stays so as arcs are tried, and with no active node left it is
-- settled, so that it holds the least lengths. Assumes nothing.
use mathlib.Core.Path.{◌∙◌}
use native.Mathlib.Omega.{arith}
use Rattle.rows.proofs.RowLaws.{started, row_is}
use Rattle.row_spread.proofs.SpreadLaws.{mend_begun, started_away}
use Rattle.row_spread.proofs.mend_row.Goals as goal

pub returns : goal.returns
returns c =
    let s = c in
    let b = c.start in
    let t = c.spread_active in
    let e = rw c.length.ensures.0 at t.ensures in (
      λ N S h M.
          row_is N s.args.mend.cap s.args.arcs.now t.new.row S.packed (e.all_settled (mend_begun M (omega arith) b.ensures))
          s.args.mend.from (rw c.length.ensures.0 at c.length.ensures.1) (e.good_stays_good.0 N s.args.mend.from S.proper S.packed
          (started s.args.marks.now s.args.mend.from s.args.row.now b.new.row b.ensures S s.args.mend.cap s.requires.row_and_start_fit.0 h)),
      λ v a. e.good_stays_good.1 s.args.mend.from v a ∙ started_away s.args.marks.now b.ensures v a.start,
    )
