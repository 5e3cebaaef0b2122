-- `Query::told` meets its contract: a number above the cap stands for a length that is, and any other for itself. Assumes nothing.
use Prim.Native.Nat.{◌<◌}
use native.Mathlib.Omega.{arith}
use Rattle.goals.proofs.ToldLaws.{told}
use Rattle.rows.proofs.HeldLaws.{holds}
use Rattle.rows.specs.Held.{missing}
use Rattle.lengths.proofs.Query.told.Goals as goal

pub returns : goal.returns
returns c r e =
    let n = c.length-most.ensures in
    let small : c.args.self.now.cap < missing = omega arith in
    rw (c.then_some.ensures, n.0) (told small (holds c.args.self.now.cap r e))
