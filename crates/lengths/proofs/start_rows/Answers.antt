-- `lengths::start_rows` meets its contract: the packed arcs are the open ones, and the starts the source and the goals' exits. Assumes nothing.
use Prim.Native.Nat.{◌+◌, ◌*◌, ◌<◌}
use mathlib.Core.Path.{sym, subst}
use native.Mathlib.Omega.{arith}
use lib.ListN.{length, take}
use lib.Seq.{length-take-le}
use Rattle.row_arcs.proofs.PackLaws.{packed_joins}
use Rattle.rows.specs.Net.{Net, net_of, graph, Packed}
use Rattle.lists.proofs.FrontLaws.{drop_further}
use Rattle.goal_table.specs.Table.{StartsAre, Rowed}
use Rattle.lengths.proofs.PartLaws.{front_count, front_starts, starts_fit, starts_of, rowed_of}
use Rattle.lengths.proofs.start_rows.Goals as goal

pub fill_rows-requires : goal.fill_rows-requires
fill_rows-requires c =
    let fit = c.requires.goals_and_work_fit in
    let p = c.pack-used in
    let t = c.set_starts in
    let N = net_of c.net.inside.nodes c.net.inside.arcs.now c.net.inside.marks.now in
    let K = subst (λ (M : Net). Packed M (take p.result p.new.packed)) (sym c.net.view_is) p.ensures.1 in
    let S : StartsAre (graph N) c.args.query.now.from c.args.goals.now t.new.starts = t.ensures in (
      packed_joins c.net.invariant K,
      starts_fit N c.args.query.now.from c.args.goals.now t.new.starts S (omega (arith, t.auto.starts, fit.0.eight)) c.args.work.now c.net.invariant fit.0.eight fit.1,
      omega (arith, length-take-le p.result p.new.packed p.ensures.0, p.ensures.0, p.auto.packed),
    )

pub returns : goal.returns
returns c =
    let fit = c.requires.goals_and_work_fit in
    let p = c.pack-used in
    let t = c.set_starts in
    let r = c.fill_rows in
    let N = net_of c.net.inside.nodes c.net.inside.arcs.now c.net.inside.marks.now in
    let from = c.args.query.now.from in
    let goals = c.args.goals.now in
    let ss = t.new.starts in
    let K = subst (λ (M : Net). Packed M (take p.result p.new.packed)) (sym c.net.view_is) p.ensures.1 in
    let S : StartsAre (graph N) from goals ss = t.ensures in
    let l : length goals < length ss = omega (arith, t.auto.starts, fit.0.eight) in
    let n = length (take (length goals + 1) ss) in
    let k = front_count N from goals ss S l in record {
      rows_filled = subst (λ (M : Net). Rowed M c.args.query.now.cap from goals r.new.work) c.net.view_is
          (rowed_of n k (front_starts N from goals ss S l) (r.ensures.rows_filled N (starts_of N from goals ss S l (take p.result p.new.packed) c.net.invariant K)));
      behind_rows_unchanged = drop_further (n * 64) 576 r.new.work c.args.work.now (omega (arith, k, fit.0.eight)) r.ensures.behind_rows_unchanged;
    }
