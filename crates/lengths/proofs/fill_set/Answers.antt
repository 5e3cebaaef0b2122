-- What the invariant does not show of `fill_set` by itself.
use mathlib.Core.Path.{refl, ◌∙◌}
use Prim.Native.Nat.{◌+◌}
use Rattle.goal_table.proofs.RestLaws.{rest_begun, rest_next, rest_more}
use Rattle.goal_table.proofs.TableLaws.{set_begun, set_next, set_done, only_same, only_then, fits_kept}
use Rattle.lengths.proofs.fill_set.Goals as goal

pub loop-i-init : goal.loop-i-init
loop-i-init c = (refl, only_same c.args.work.now, 0, rest_begun c.args.set.bits, λ N a goals few F. set_begun F)

pub put-requires : goal.put-requires
put-requires c =
    let l = c.loop-i in
    (fits_kept c.requires l.invariant.1 l.invariant.0, (rest_next l.invariant.3 c.in-Some.ensures.taken).in_set)

pub loop-i-preserved : goal.loop-i-preserved
loop-i-preserved c =
    let l = c.loop-i in
    let first = c.in-Some.ensures.taken in
    let t = c.put in (
      t.auto.work ∙ l.invariant.0,
      only_then l.invariant.1 t.ensures.outside_table_unchanged,
      c.in-Some.i + 1,
      rest_more l.invariant.3 first,
      λ N a goals few F. t.ensures.goal_done N a goals few (set_next (rest_next l.invariant.3 first) (l.invariant.4 N a goals few F)),
    )

pub returns : goal.returns
returns c = let l = c.loop-i in record {
  fills_set = λ N a goals few F. set_done l.invariant.3 c.in_default.ensures.empty (l.invariant.4 N a goals few F);
  outside_table_unchanged = l.invariant.1;
}
