-- `greedy_turn::fits_limit` meets its contract: the table over the rows gives the least length up to the limit, and it is at most the limit exactly where a
-- walk fits. Assumes nothing.
use mathlib.Core.Path.{refl, sym, subst, ◌∙◌}
use native.Mathlib.Omega.{arith}
use Rattle.rows.specs.Net.{Proper, graph, closed}
use Rattle.lists.proofs.FrontLaws.{drop_further}
use Rattle.lengths.proofs.PartLaws.{table_room, filled_begun, rowed_kept}
use Rattle.greedy_turn.proofs.TurnLaws.{noted_kept, front_less}
use Rattle.goals.proofs.ToldLaws.{told_fits}
use Rattle.greedy_turn.proofs.fits_limit.Goals as goal

pub fill_table-requires : goal.fill_table-requires
fill_table-requires c =
    let n = c.note_goals in
    table_room (subst Proper c.net.view_is c.net.invariant) c.requires.0 (omega (arith, n.auto.work, c.requires.1)) n.ensures.noted

pub reach_goals-requires : goal.reach_goals-requires
reach_goals-requires c =
    let p = subst Proper c.net.view_is c.net.invariant in
    (omega (arith, c.note_goals.auto.work, c.fill_table.auto.work, c.requires.1), c.requires.0.eight, omega (arith, c.requires.2, p.few))

pub returns : goal.returns
returns c =
    let s = c.requires in
    let n = c.note_goals in
    let noted = rw c.length.ensures.0 at n.ensures.noted in
    let f = c.fill_table in
    let a = c.args.query.now in
    let N = c.args.net.now in
    let p = subst Proper c.net.view_is c.net.invariant in
    let goals = c.args.goals.now in
    let mid = n.new.work in
    let after = f.new.work in record {
      tells_whether_fits = λ R.
          let F = filled_begun p s.0 (rowed_kept p.few s.0.eight n.ensures.only_notes_written.0 R) noted in
          let e = c.reach_goals.ensures N a.from goals refl s.2 (f.ensures.fills_table N a.from goals refl F) in
          sym (told_fits (graph N) a.from a.to a.cap (closed N) goals _ e) ∙ sym c.is_some.ensures;
      goals_noted = record {
        noted = noted_kept N a.cap goals mid after s.0.eight f.ensures.outside_table_unchanged.front noted;
        front = front_less mid after f.ensures.outside_table_unchanged.front ∙ n.ensures.only_notes_written.0;
      };
      kept_rows_unchanged = f.ensures.outside_table_unchanged.behind ∙ drop_further 592 3072 mid c.args.work.now (omega arith) n.ensures.only_notes_written.1;
    }
