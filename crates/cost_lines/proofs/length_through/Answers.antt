-- `length_through` asks for the length with a cap that no length of a sheet reaches.
use mathlib.Core.Path.{◌∙◌}
use native.Mathlib.Omega.{arith}
use Rattle.cost_lines.proofs.LengthLaws.{length_is}
use Rattle.cost_lines.proofs.length_through.Goals as goal

pub invariant_of-net : goal.invariant_of-net
invariant_of-net c =
    let W = c.args.sheet.now.whole in
    record { few = W.proper.few; marked = omega (arith, W.sized.0, c.requires.0); tails = W.proper.tails; heads = W.proper.heads }

pub least_through-requires : goal.least_through-requires
least_through-requires c =
    let W = c.args.sheet.now.whole in
    record { few_arcs = omega (arith, W.sized.0, W.few); item_and_ends = (omega (arith, W.sized.0, c.requires.1), W.source, W.target) }

pub returns : goal.returns
returns c = c.least_through.ensures ∙ length_is c.args.sheet.now.whole c.args.marks.now c.args.item
