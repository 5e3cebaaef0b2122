-- `row_spread::chain` meets its contract. The loop's invariant: the arcs below `arc` are chained, and what is behind is as it was. Assumes nothing.
use Prim.Native.Nat.{◌+◌}
use mathlib.Core.Path.{◌≡◌}
use lib.ListN.{drop}
use Rattle.rows.specs.Net.{tail_in}
use Rattle.row_spread.specs.Arcs.{ChainedBy}
use Rattle.row_spread.proofs.chain.Given as goal

abbrev pub invariant-loop-arc : goal.invariant-loop-arc
invariant-loop-arc l = ChainedBy (tail_in l.arcs) l.arc l.chains × (drop (64 + l.arc) l.chains ≡ drop (64 + l.arc) l.fn.chains)
