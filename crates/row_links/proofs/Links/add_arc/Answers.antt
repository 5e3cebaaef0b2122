-- `row_links::Links::add_arc` meets its contract: an arc that is opened is among the open arcs where its head is open, so it is put behind them and in front
-- of its tail's chain, and else they are as they were. Assumes nothing.
use mathlib.Core.Path.{sym, ◌∙◌, subst}
use native.Mathlib.Omega.{arith}
use borrow.Author.Rules.{rules}
use Rattle.row_links.proofs.LinkLaws.{arc_left, arc_behind}
use Rattle.rows.specs.Net.{Proper}
use Rattle.row_links.proofs.Links.add_arc.Goals as goal

pub returns-then-is_closed : goal.returns-then-is_closed
returns-then-is_closed c =
    let ps = c.args.self.now in
    arc_left c.args.net.now c.args.arc ps.arcs ps.chains ps.count c.requires.1 (rw c.head.ensures.0 at (sym c.is_closed.ensures ∙ c.if-is_closed.true))

pub chain_arc-requires : goal.chain_arc-requires
chain_arc-requires c =
    let p = subst Proper c.net.view_is c.net.invariant in
    (search rules, omega (arith, c.tail.ensures.1, p.few), omega (arith, c.requires.1))

pub returns : goal.returns
returns c =
    let ps = c.args.self.now in
    rw (c.chain_arc.ensures, c.tail.ensures.0, c.arc.ensures)
    (arc_behind c.args.net.now c.args.arc ps.arcs ps.chains ps.count c.requires.1 (rw c.head.ensures.0 at (sym c.is_closed.ensures ∙ c.if-is_closed.false)))
