-- What the invariant does not show of `read_all` by itself.
use Rattle.std.proofs.Common.{rules, refl}
use Rattle.numbers.proofs.SeveralLaws.{store_start, store_more, store_refused, store_stops, store_done, store_got}
use Rattle.numbers.proofs.section.read_all.Goals as goal

pub loop-i-init : goal.loop-i-init
loop-i-init g c = store_start _ _ _ _

pub returns-in_err-out-clause-refused : goal.returns-in_err-out-clause-refused
returns-in_err-out-clause-refused g c = let stopped = store_refused c.loop-i.invariant c.loop-i-test.true c.in_err-out.ensures.refused in search rules

pub returns-in_err-out-clause-in_front : goal.returns-in_err-out-clause-in_front
returns-in_err-out-clause-in_front g c = store_stops c.loop-i.invariant c.loop-i-test.true c.in_err-out.ensures.refused

pub loop-i-preserved : goal.loop-i-preserved
loop-i-preserved g c = store_more c.loop-i.invariant c.loop-i-test.true (search rules) c.in_ok-out.ensures.got

pub returns-clause-got : goal.returns-clause-got
returns-clause-got g c = store_got c.loop-i.invariant c.loop-i-test.false refl

pub returns-clause-in_front : goal.returns-clause-in_front
returns-clause-in_front g c = store_done c.loop-i.invariant c.loop-i-test.false
