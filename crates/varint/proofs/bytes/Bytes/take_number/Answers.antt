-- What the invariant and the laws of `TakeLaws` do not show of `take_number` by themselves.
use native.Mathlib.Omega.{arith}
use Rattle.varint.proofs.TakeLaws.{one, needless, gives, more, sum_low}
use Rattle.varint.proofs.bytes.Bytes.take_number.Goals as goal
use Rattle.varint.proofs.bytes.Bytes.take_number.Goals.{else-group-eq0-via-then-group-eq0+else-i-gt0, else-group-eq0-via-else-group-eq0}

pub returns-then-only-lt128-clause-got : goal.returns-then-only-lt128-clause-got
returns-then-only-lt128-clause-got c = one c.in-Some.ensures.cases.0 c.if-only-lt128.true

pub returns-then-only-lt128-clause-decided : goal.returns-then-only-lt128-clause-decided
returns-then-only-lt128-clause-decided c = record { got = one c.in-Some.ensures.cases.0 c.if-only-lt128.true; refused = tt; kept = tt; small = omega (arith, c.if-only-lt128.true) }

pub returns-then-i-gt0-clause-refused : goal.returns-then-i-gt0-clause-refused
returns-then-i-gt0-clause-refused c =
    needless c.loop-i.invariant.taking c.loop-i-test.true c.in-Some-split_first.ensures.cases.0 c.if-group-eq0.true c.if-i-gt0.true

pub returns-then-i-gt0-clause-decided : goal.returns-then-i-gt0-clause-decided
returns-then-i-gt0-clause-decided c = record { got = tt; refused = needless c.loop-i.invariant.taking c.loop-i-test.true c.in-Some-split_first.ensures.cases.0 c.if-group-eq0.true c.if-i-gt0.true; kept = c.loop-i.invariant.kept; small = tt }

pub returns-then-group-lt128-clause-got : goal.returns-then-group-lt128-clause-got
returns-then-group-lt128-clause-got c =
    gives c.loop-i.invariant.taking c.loop-i-test.true c.in-Some-split_first.ensures.cases.0 c.if-group-lt128.true
    (λ z. elim c.else-group-eq0.branch [ else-group-eq0-via-then-group-eq0+else-i-gt0 w ↦ omega arith | else-group-eq0-via-else-group-eq0 w ↦ absurd (w.if-group-eq0.false z) ])

pub returns-then-group-lt128-clause-decided : goal.returns-then-group-lt128-clause-decided
returns-then-group-lt128-clause-decided c = record {
  got = gives c.loop-i.invariant.taking c.loop-i-test.true c.in-Some-split_first.ensures.cases.0 c.if-group-lt128.true
      (λ z. elim c.else-group-eq0.branch [ else-group-eq0-via-then-group-eq0+else-i-gt0 h ↦ omega arith | else-group-eq0-via-else-group-eq0 h ↦ absurd (h.if-group-eq0.false z) ]);
  refused = tt;
  kept = tt;
  small = sum_low c.loop-i.invariant.taking c.loop-i-test.true _ (omega (arith, c.if-group-lt128.true));
}

pub loop-i-preserved : goal.loop-i-preserved
loop-i-preserved c = record {
  taking = more c.loop-i.invariant.taking c.loop-i-test.true c.in-Some-split_first.ensures.cases.0 c.if-group-lt128.false (omega arith);
  kept = c.loop-i.invariant.kept;
}
