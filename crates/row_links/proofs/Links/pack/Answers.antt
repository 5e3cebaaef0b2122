-- `row_links::Links::pack` meets its contract: the arcs are packed, and then chained. Assumes nothing.
use mathlib.Core.Path.{◌≡◌, subst}
use native.Mathlib.Omega.{arith}
use borrow.Author.Rules.{rules}
use lib.ListN.{length}
use lib.Seq.{length-take-le}
use Rattle.rows.specs.Net.{Proper}
use Rattle.row_arcs.proofs.PackLaws.{packed_joins}
use Rattle.row_links.proofs.LinkLaws.{all_linked}
use Rattle.row_links.proofs.Links.pack.Goals as goal

pub chain-requires : goal.chain-requires
chain-requires c =
    let t = c.pack-self in (
      packed_joins (subst Proper c.net.view_is c.net.invariant) t.ensures.1,
      omega (arith, length-take-le t.result t.new.packed t.ensures.0, t.ensures.2, c.requires.few_arcs),
      search rules,
    )

pub returns : goal.returns
returns c =
    let t = c.pack-self in
    let a = c.args.self.now in
    let long : length a.arcs ≡ 512 = search rules in
    all_linked c.args.net.now a.arcs t.new.packed a.chains c.chain.new.chains t.result (omega (arith, c.requires.few_arcs, long)) t.ensures.3
    c.chain.ensures.arcs_chained c.chain.ensures.behind_unchanged
