-- What the invariant does not show of `spread_node` by itself: the chain leads from each arc of the node to the one before it.
use Prim.Native.Nat.{◌-◌}
use mathlib.Core.Path.{refl, ◌∙◌}
use native.Mathlib.Omega.{arith}
use Rattle.rows.proofs.RowLaws.{fits}
use Rattle.row_spread.specs.Active.{idle}
use Rattle.row_spread.proofs.ChainLaws.{chain_small, chain_falls}
use Rattle.row_spread.proofs.SpreadLaws.{tries_more, added_tries, added_keeps, added_away, waits_begun, waits_more, taken, met_first, met_next}
use Rattle.row_spread.proofs.spread_node.Goals as goal

pub loop-link-init : goal.loop-link-init
loop-link-init c =
    let r = c.requires in
    let xs = c.args.arcs.now in (
      chain_small _ r.1 c.args.node r.3,
      λ N a p P g. g,
      met_first xs r.1 c.args.node _ r.3 refl,
      waits_begun xs r.1 r.3,
      idle refl,
      λ s v a. refl,
    )

pub loop-link-smaller : goal.loop-link-smaller
loop-link-smaller c = omega (arith, chain_falls _ c.requires.1 (c.loop-link.link - 1) (omega arith))

pub loop-link-preserved : goal.loop-link-preserved
loop-link-preserved c =
    let r = c.requires in
    let xs = c.args.arcs.now in
    let l = c.loop-link in
    let i = l.invariant in
    let added = c.try_adding-left.ensures in
    let f = fits xs l.row (l.link - 1) r.0 (l.auto.row ∙ r.2) (omega arith) in (
      omega (arith, chain_falls _ r.1 (l.link - 1) (omega arith)),
      λ N a p P g. added_keeps f added N a p P (i.1 N a p P g),
      met_next xs r.1 c.args.node (l.link - 1) _ f.below (i.2 (omega arith)) refl,
      λ S. waits_more xs r.1 (omega arith) f (i.2 (omega arith)) added (i.3 S),
      tries_more (λ p q. q ∙ p) i.4 (added_tries f added),
      λ s v a. added_away f s added v a ∙ i.5 s v a,
    )

pub returns-clause-active_or_total_falls : goal.returns-clause-active_or_total_falls
returns-clause-active_or_total_falls c = taken c.args.active c.args.node c.requires.3 c.requires.4 c.loop-link.invariant.4
