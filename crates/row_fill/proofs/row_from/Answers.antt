-- What the check does not find of `row_from`: the packed arcs are the open ones of the net.
use mathlib.Core.Path.{refl, sym, ap, subst}
use native.Mathlib.Omega.{arith}
use lib.Seq.{length-take-le}
use Rattle.row_arcs.proofs.PackLaws.{packed_joins}
use Rattle.rows.specs.Net.{Net, Proper}
use Rattle.row_fill.proofs.FillLaws.{behind_away}
use Rattle.row_fill.proofs.row_from.Goals as goal

pub chain-requires : goal.chain-requires
chain-requires c =
    let t = c.pack-used in (
      packed_joins (subst Proper c.net.view_is c.net.invariant) t.ensures.1,
      omega (arith, length-take-le t.result t.new.packed t.ensures.0, t.ensures.2, c.requires.few_arcs),
      refl,
    )

pub fill_row-requires-clause-arcs_chained : goal.fill_row-requires-clause-arcs_chained
fill_row-requires-clause-arcs_chained c =
    (packed_joins (subst Proper c.net.view_is c.net.invariant) c.pack-used.ensures.1, c.chain.ensures.arcs_chained)

pub returns : goal.returns
returns c =
    let p = subst Proper c.net.view_is c.net.invariant in
    let t = c.fill_row.ensures in
    let P = c.pack-used.ensures.1 in
    let from = c.requires.row_and_start_fit.1 in (
      t.least_lengths c.args.net.now (record { proper = p; marked = sym (ap (λ (N : Net). N.marks) c.net.view_is); packed = P; node = from }),
      λ v h l. t.away_missing v l (behind_away p P from h),
    )
