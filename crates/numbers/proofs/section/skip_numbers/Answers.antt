-- What the invariant and the laws of `SeveralLaws` do not show of `skip_numbers` by themselves.
use Rattle.std.proofs.Common.{rules}
use Rattle.numbers.proofs.SeveralLaws.{go_refused, go_got}
use Rattle.numbers.proofs.section.skip_numbers.Goals as goal

pub returns-in_err-take_number-clause-refused : goal.returns-in_err-take_number-clause-refused
returns-in_err-take_number-clause-refused c = let stopped = go_refused c.loop-i.invariant c.loop-i-test.true c.in_err-take_number.ensures.refused in search rules

pub returns-clause-got : goal.returns-clause-got
returns-clause-got c = go_got c.loop-i.invariant c.loop-i-test.false
