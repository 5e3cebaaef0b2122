-- What the invariant does not show of `pack` by itself.
use mathlib.Core.Path.{◌≡◌, refl, sym, ◌∙◌}
use mathlib.Core.Bool.{true≢false}
use native.Mathlib.Omega.{arith}
use Rattle.lists.specs.Lists.{Put}
use Rattle.row_arcs.specs.OpenArcs.{open_to, open_arcs}
use Rattle.row_arcs.proofs.PackLaws.{left_out, put_open, packs}
use Rattle.rows.specs.Net.{count}
use Rattle.row_arcs.proofs.pack.Goals as goal
use Rattle.row_arcs.proofs.pack.Goals.{then-is_open, else-is_open}

pub loop-arc-init : goal.loop-arc-init
unfolding open_to
loop-arc-init c = (omega arith, (refl, refl))

pub loop-arc-preserved : goal.loop-arc-preserved
loop-arc-preserved c =
    let N = c.args.net.now in
    let l = c.loop-arc in
    elim c.if-is_open.branch [
      | then-is_open w ↦ (
        omega (arith, w.count-is),
        rw (w.packed-is, w.count-is, w.arc.ensures) (put_open N l.arc l.count c.args.packed.now l.packed (omega arith) (c.is_open.ensures.0 w.if-is_open.true) l.invariant.1),
      )
      | else-is_open w ↦ (
        omega (arith, w.count-is),
        rw (w.packed-is, w.count-is) (left_out N l.arc l.count c.args.packed.now l.packed (λ o. true≢false (sym (c.is_open.ensures.1 o) ∙ w.if-is_open.false)) l.invariant.1),
      )
    ]

pub returns : goal.returns
returns c =
    let l = c.loop-arc in
    let q : l.arc ≡ count c.args.net.now = omega arith in
    let w : Put (open_arcs c.args.net.now) c.args.packed.now l.packed l.count = rw (← q) l.invariant.1 in
    let P = packs c.args.net.now c.args.packed.now c.requires w in
    (P.within, P.packed, P.most, w)
