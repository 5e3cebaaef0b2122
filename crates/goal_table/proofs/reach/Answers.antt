-- What the invariant does not show of `reach` by itself.
use Prim.Native.Nat.{◌+◌, ◌<◌}
use native.Mathlib.Omega.{arith}
use Rattle.rows.specs.Held.{missing}
use Rattle.goal_table.proofs.RestLaws.{rest_begun, rest_next, rest_more}
use Rattle.goal_table.proofs.SetLaws.{has_below}
use Rattle.goal_table.proofs.TableLaws.{reach_more, reach_done, any_begun}
use Rattle.goal_table.proofs.reach.Goals as goal

pub loop-i-init : goal.loop-i-init
loop-i-init c =
    let n = c.length-most.ensures in
    let small : c.args.cap < missing = omega arith in
    (0, rest_begun c.args.set.bits, λ N a goals K. any_begun N c.args.cap a c.args.node c.args.set.bits goals small)

pub better-best-requires : goal.better-best-requires
better-best-requires c =
    (c.requires.0, c.requires.2, has_below c.args.set.bits c.in-Some.i 8 c.requires.2 (rest_next c.loop-i.invariant.1 c.in-Some.ensures.taken).in_set, c.requires.3)

pub loop-i-preserved : goal.loop-i-preserved
loop-i-preserved c =
    let l = c.loop-i in
    let first = c.in-Some.ensures.taken in
    let n = c.length-most.ensures in
    let small : c.args.cap < missing = omega arith in (
      c.in-Some.i + 1,
      rest_more l.invariant.1 first,
      λ N a goals K. reach_more K l.best c.better-best.result (rest_next l.invariant.1 first) small (l.invariant.2 N a goals K) c.better-best.ensures,
    )

pub returns : goal.returns
returns c N a goals K =
    let l = c.loop-i in
    reach_done K l.best c.capped.result l.invariant.1 c.in_default.ensures.empty c.requires.1 (l.invariant.2 N a goals K) (rw c.length-most.ensures.0 at c.capped.ensures)
