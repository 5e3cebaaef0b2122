-- `goals::own` meets its contract: a node adds 0, a forbidden arc is none, and any other adds its weight. Assumes nothing.
use Prim.Native.Nat.{◌≤◌, ◌<◌}
use mathlib.Core.Path.{sym, ◌∙◌}
use native.Mathlib.Omega.{arith}
use Rattle.rows.proofs.ArcLaws.{own_at, own_shut_at}
use Rattle.rows.proofs.HeldLaws.{above_none}
use Rattle.rows.specs.Net.{graph, closed}
use Rattle.walks.proofs.GoalLaws.{own_node}
use Rattle.goals.proofs.ToldLaws.{told_high, told_low, told_if}
use Rattle.goals.proofs.own.Goals as goal

pub returns-then-goal-net : goal.returns-then-goal-net
returns-then-goal-net c =
    let N = c.args.net.now in
    let below : c.args.goal < N.nodes = rw (← c.net.view_is) c.if-goal-net.true in
    told_low c.args.cap 0 (omega arith) (own_node (graph N) (closed N) c.args.goal below)

pub returns-then-is_closed : goal.returns-then-is_closed
returns-then-is_closed c =
    let N = c.args.net.now in
    let arc : N.nodes ≤ c.args.goal = rw (← c.net.view_is) c.if-goal-net.false in
    told_high c.args.cap _ (above_none c.args.cap (own_shut_at N c.args.goal arc c.requires (sym c.is_closed.ensures ∙ c.if-is_closed.true)))

pub returns : goal.returns
returns c =
    let N = c.args.net.now in
    let arc : N.nodes ≤ c.args.goal = rw (← c.net.view_is) c.if-goal-net.false in
    let is = own_at N c.args.goal arc c.requires (sym c.is_closed.ensures ∙ c.if-is_closed.false) in
    rw c.then_some.ensures (told_if c.args.cap c.weight-weight.result (grind (arith, is, c.weight-weight.ensures, c.net.view_is)))
