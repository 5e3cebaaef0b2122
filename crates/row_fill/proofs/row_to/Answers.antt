-- What the check does not find of `row_to`: a row from `to` over the exchanged arcs is a row to `to`, since reversed walks have the same lengths.
use mathlib.Core.Path.{subst}
use native.Mathlib.Omega.{arith}
use Rattle.rows.specs.Net.{Net}
use Rattle.rows.specs.Rows.{RowTo, NoneBehind}
use Rattle.row_fill.proofs.TurnLaws.{row_to}
use Rattle.row_fill.proofs.row_to.Goals as goal

pub returns : goal.returns
returns c =
    let r = c.row_from in
    let e = r.new.row in
    let n = c.net.inside in
    let few = rw (← c.net.view_is) at c.requires.few_arcs in
    subst (λ (N : Net). RowTo N c.args.cap c.args.to e × NoneBehind N.nodes e) c.net.view_is
    (row_to n.nodes n.arcs.now c.turn.new.back n.marks.now (omega (arith, few)) c.turn.ensures c.args.cap c.args.to e r.ensures.0, r.ensures.1)
