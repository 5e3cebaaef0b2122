-- `goals::sum` meets its contract: what is missing is above the cap, so a sum with it is too. Assumes nothing.
use Prim.Native.Nat.{◌<◌}
use native.Mathlib.Omega.{arith}
use Rattle.rows.proofs.HeldLaws.{holds}
use Rattle.rows.specs.Held.{missing}
use Rattle.goals.proofs.ToldLaws.{told_over, told_sum}
use Rattle.goals.proofs.sum.Goals as goal

pub returns-in_err-both : goal.returns-in_err-both
returns-in_err-both c p q e f =
    let s = c in
    let n = s.length-most.ensures in
    let small : s.args.cap < missing = omega arith in
    rw c.from_residual.ensures (told_over small (holds s.args.cap p e) (holds s.args.cap q f) (omega (arith, c.in_err-both.ensures)))

pub returns : goal.returns
returns c p q e f =
    let s = c in
    let n = s.length-most.ensures in
    let small : s.args.cap < missing = omega arith in
    rw c.then_some.ensures (told_sum small (holds s.args.cap p e) (holds s.args.cap q f) c.in_ok-both.both c.length-most.result c.in_ok-both.ensures.1 n.0)
