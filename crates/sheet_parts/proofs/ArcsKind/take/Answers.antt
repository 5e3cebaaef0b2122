-- Each number of an arc decides the next step.
use Rattle.std.proofs.Common.{rules}
use Rattle.sheet_parts.proofs.TakeLaws.{no_tail, no_head, head_is_tail, no_minutes, arc_taken}
use Rattle.sheet_parts.proofs.ArcsKind.take.Goals as goal

pub returns-in_err-tail-clause-refused : goal.returns-in_err-tail-clause-refused
returns-in_err-tail-clause-refused c = let stopped = no_tail _ _ c.in_err-tail.ensures.refused in search rules

pub returns-in_err-head-clause-refused : goal.returns-in_err-head-clause-refused
returns-in_err-head-clause-refused c = let stopped = no_head _ _ c.in_ok-tail.ensures.got c.in_err-head.ensures.refused in search rules

pub returns-then-head-tail-clause-refused : goal.returns-then-head-tail-clause-refused
returns-then-head-tail-clause-refused c = head_is_tail _ _ c.in_ok-tail.ensures.got c.in_ok-head.ensures.got c.if-head-tail.true

pub returns-in_err-weight-clause-refused : goal.returns-in_err-weight-clause-refused
returns-in_err-weight-clause-refused c = let stopped = no_minutes _ _ c.in_ok-tail.ensures.got c.in_ok-head.ensures.got c.if-head-tail.false c.in_err-weight.ensures.refused in search rules

pub returns-clause-got : goal.returns-clause-got
returns-clause-got c = arc_taken _ _ c.in_ok-tail.ensures.got c.in_ok-head.ensures.got c.if-head-tail.false c.in_ok-weight.ensures.got
