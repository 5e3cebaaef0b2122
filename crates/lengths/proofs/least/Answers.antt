-- `lengths::least` meets its contract: the rows and the notes begin the table, the filled table has the set of all goals, and each part leaves the work behind it. Assumes nothing.
use mathlib.Core.Path.{refl, ◌∙◌, subst}
use native.Mathlib.Omega.{arith}
use Rattle.rows.specs.Net.{Proper}
use Rattle.lists.proofs.FrontLaws.{drop_further}
use Rattle.lengths.proofs.PartLaws.{table_room, filled_begun, rowed_kept}
use Rattle.lengths.proofs.least.Goals as goal

pub fill_table-requires : goal.fill_table-requires
fill_table-requires c =
    let fit = c.requires.goals_and_work_fit in
    let n = c.note_goals in
    table_room (subst Proper c.net.view_is c.net.invariant) fit.0 (omega (arith, n.auto.work, c.start_rows.auto.work, fit.1)) n.ensures.noted

pub returns : goal.returns
returns c =
    let fit = c.requires.goals_and_work_fit in
    let r = c.start_rows in
    let n = c.note_goals in
    let noted = rw c.length.ensures.0 at n.ensures.noted in
    let f = c.fill_table in
    let P = subst Proper c.net.view_is c.net.invariant in
    let R = rowed_kept P.few fit.0.eight n.ensures.only_notes_written.0 r.ensures.rows_filled in
    let F = f.ensures.fills_table c.args.net.now c.args.query.now.from c.args.goals.now refl (filled_begun P fit.0 R noted) in record {
      least_length = c.reach_goals.ensures c.args.net.now c.args.query.now.from c.args.goals.now refl fit.3 F;
      rows_filled = F.rowed;
      behind_table_unchanged = f.ensures.outside_table_unchanged.behind ∙ drop_further 592 3072 n.new.work r.new.work (omega arith) n.ensures.only_notes_written.1
          ∙ drop_further 576 3072 r.new.work c.args.work.now (omega arith) r.ensures.behind_rows_unchanged;
    }
