-- `lengths::reach_goals` meets its contract: without goals the source's row has the length, and else the set of all goals is asked for. Assumes nothing.
use Prim.Native.Nat.{◌^◌, ◌≤◌}
use native.Mathlib.Omega.{arith}
use lib.Pow.{pow_mono}
use Rattle.lengths.proofs.PartLaws.{no_goals, all_goals}
use Rattle.goal_table.proofs.TableLaws.{set_small}
use Rattle.lengths.proofs.reach_goals.Goals as goal

pub returns-then-count-eq0 : goal.returns-then-count-eq0
returns-then-count-eq0 c N a goals q h F = c.told.ensures _ (no_goals c.args.count c.args.query.now.to q F h c.if-count-eq0.true)

-- with a goal there are two sets at least
pub reach-requires : goal.reach-requires
reach-requires c =
    let two : 2 ≤ 2 ^ c.args.count = pow_mono {i = 1} (omega (arith, c.if-count-eq0.false)) in
    let e = c.below.ensures in
    (c.requires.0, omega (arith, e, two), set_small c.args.count c.below.result.bits c.requires.1 (omega (arith, e, two)), c.requires.2)

pub returns : goal.returns
returns c N a goals q h F = c.told-2.ensures _ (all_goals c.args.count c.args.query.now.to q F h c.below.result.bits c.reach.result c.below.ensures c.reach.ensures)
