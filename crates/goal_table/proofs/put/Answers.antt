-- `goal_table::put` meets its contract: the set without goal `i` has a smaller number, so its entries are filled already; where it holds no goal, the source's row
-- has the way to the entry. Assumes nothing.
use Prim.Native.Nat.{ℕ, ◌+◌, ◌^◌, ◌<◌}
use mathlib.Core.Path.{◌≡◌, sym, ◌∙◌}
use mathlib.Core.List.{List}
use native.Mathlib.Omega.{arith}
use lib.ListN.{length, get_or, replicate}
use Rattle.walks.specs.Lengths.{Least, plus}
use Rattle.goals.proofs.ToldLaws.{told_held}
use Rattle.rows.specs.Held.{held}
use Rattle.rows.specs.Net.{Net}
use Rattle.goal_table.proofs.SetLaws.{has_below, but_some}
use Rattle.goal_table.proofs.TableLaws.{to_entry, alone_begun, others_reached, past_is, put_one, only_put}
use Rattle.goal_table.specs.Table.{Filled}
use Rattle.goal_table.proofs.put.Goals as goal
use Rattle.goal_table.proofs.put.Goals.{Joined-len-eq1, then-len-eq1, else-len-eq1}

-- where the two ways meet: the least length to the goal's entry, the set's other goals met
way-is : (c : goal.Joined-len-eq1) (N : Net) (a : ℕ) (goals : List ℕ) →
    (few : c.args.set.bits < 2 ^ length goals) (F : Filled N c.args.cap a goals c.args.set.bits c.args.work.now) →
    c.if-len-eq1.way' ≡ held c.args.cap (to_entry F c.args.i few c.requires.1)
way-is c N a goals few F =
    elim c.if-len-eq1.branch [
      | then-len-eq1 w ↦ w.way'-is ∙ alone_begun F c.args.i few c.requires.1 (sym (c.len.ensures goals few) ∙ w.if-len-eq1.true)
      | else-len-eq1 w ↦ w.way'-is ∙ others_reached F c.args.i few c.requires.1 c.without-rest.result.bits w.reach-way.result c.without-rest.ensures.0 w.reach-way.ensures
    ]

-- that the set holds other goals does not hang on which goals they are: any eight will do
pub reach-way-requires : goal.reach-way-requires
reach-way-requires c =
    let b = c.without-rest.ensures in
    let eight : List ℕ = replicate 8 0 in
    let some = but_some eight c.args.set.bits c.args.i c.requires.0.small c.requires.1 (λ o. c.if-len-eq1.false (c.len.ensures eight c.requires.0.small ∙ o)) in
    (c.requires.0.long, omega (arith, b.0, some), omega (arith, b.0, c.requires.0.small), c.requires.0.entries c.args.i c.requires.1)

pub returns : goal.returns
returns c =
    let s = c in
    let x = c.unwrap_or.result in
    let held_sum = λ (p q : Least) (e : c.if-len-eq1.way' ≡ held s.args.cap p) (f : get_or s.args.work.now (584 + s.args.i) 0 ≡ held s.args.cap q).
    c.unwrap_or.ensures ∙ told_held s.args.cap (plus p q) c.sum.result (c.sum.ensures p q e f) in
    rw c.entry.ensures (record {
      goal_done = λ N a goals few F.
          put_one x s.requires.0.small (has_below s.args.set.bits s.args.i (length goals) few s.requires.1) s.requires.0.long
          (past_is F.filled s.args.i few s.requires.1 c.if-len-eq1.way' x (way-is (goal.at.returns c).Joined-len-eq1 N a goals few F.filled) held_sum) F;
      outside_table_unchanged = only_put s.args.work.now s.args.set.bits s.args.i x s.requires.0.small c.without-rest.ensures.1;
    })
