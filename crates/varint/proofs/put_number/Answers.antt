-- What the invariant and the laws of `WriteLaws` do not show of `put_number` by themselves.
use native.Mathlib.Omega.{arith}
use Rattle.varint.proofs.WriteLaws.{within, written}
use Rattle.varint.proofs.put_number.Goals as goal

pub bounds-out-i : goal.bounds-out-i
bounds-out-i c = within c.loop-rest.invariant c.requires.1

pub bounds-out-i-2 : goal.bounds-out-i-2
bounds-out-i-2 c = within c.loop-rest.invariant c.requires.1

pub returns : goal.returns
returns c = written c.loop-rest.invariant c.requires.1 (omega arith)
