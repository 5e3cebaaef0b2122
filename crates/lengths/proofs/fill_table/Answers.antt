-- What the invariant does not show of `fill_table` by itself.
use mathlib.Core.Path.{◌≡◌, ◌∙◌, subst}
use Prim.Native.Nat.{ℕ, ◌^◌, ◌<◌}
use native.Mathlib.Omega.{arith}
use Rattle.goal_table.proofs.TableLaws.{only_then, set_fits, fits_kept, shifted}
use Rattle.goal_table.specs.Table.{Filled}
use Rattle.lengths.proofs.fill_table.Goals as goal

pub fill_set-requires : goal.fill_set-requires
fill_set-requires c =
    let l = c.loop-bits in
    let below : l.bits < 2 ^ c.args.count = omega (arith, c.loop-bits-test.true, shifted c.args.count c.requires.eight) in
    fits_kept (set_fits c.requires below) l.invariant.1 l.invariant.0

pub loop-bits-preserved : goal.loop-bits-preserved
loop-bits-preserved c =
    let l = c.loop-bits in
    let t = c.fill_set in
    let below : l.bits < 2 ^ c.args.count = omega (arith, c.loop-bits-test.true, shifted c.args.count c.requires.eight) in (
      t.auto.work ∙ l.invariant.0,
      only_then l.invariant.1 t.ensures.outside_table_unchanged,
      λ N a goals q F. t.ensures.fills_set N a goals (rw q below) (l.invariant.2 N a goals q F),
    )

pub returns-clause-fills_table : goal.returns-clause-fills_table
returns-clause-fills_table c N a goals q F =
    let l = c.loop-bits in
    let all : l.bits ≡ 2 ^ c.args.count = omega (arith, c.loop-bits-test.false, l.auto.bits-end, shifted c.args.count c.requires.eight) in
    subst (λ (n : ℕ). Filled N c.args.cap a goals n l.work) all (l.invariant.2 N a goals q F)
