-- `reason::explain_item` meets its contract: 15 for no item, 16 for one that is not pruned, and else the slip of its own goal. Assumes nothing.
use Prim.Native.Nat.{◌+◌, ◌<◌}
use mathlib.Core.Path.{sym, ap, ◌∙◌}
use mathlib.Core.List.{List, [], ◌∷◌}
use native.Mathlib.Omega.{arith}
use lib.ListN.{length}
use Rattle.lists.specs.Lists.{front}
use Rattle.sheet.specs.Slip.{slip_bytes}
use Rattle.pass.proofs.OutcomeLaws.{wrote_none, wrote_bytes}
use Rattle.pass.specs.Blamed.{Blamed}
use Rattle.reason.proofs.ItemLaws.{no_item, not_pruned, pruned, blamed, item_slip, item_room}
use Rattle.reason.proofs.explain_item.Goals as goal
use Rattle.reason.proofs.explain_item.Goals.{Else-not-is_pruned}

-- no walk within the limit meets the item
unmet : (p : Else-not-is_pruned) → Blamed p.args.sheet.now.header p.args.sheet.now.arcs.now p.args.sheet.now.marks.now (p.args.item ∷ [])
unmet p = blamed p.args.sheet.now.whole p.args.item (omega arith) (sym p.is_pruned.ensures ∙ p.if-not-is_pruned.false)

pub returns-then-items-item : goal.returns-then-items-item
returns-then-items-item c = wrote_none (no_item c.args.sheet.now.whole c.args.item (omega arith))

pub returns-then-not-is_pruned : goal.returns-then-not-is_pruned
returns-then-not-is_pruned c =
    wrote_none (not_pruned c.args.sheet.now.whole c.args.item (omega arith) (sym c.is_pruned.ensures ∙ c.if-not-is_pruned.true))

pub ready_rows-requires-clause-goals_and_scratch_fit : goal.ready_rows-requires-clause-goals_and_scratch_fit
ready_rows-requires-clause-goals_and_scratch_fit c =
    let u = unmet (goal.at.ready_rows-requires-clause-goals_and_scratch_fit c).Else-not-is_pruned in
    rw (c.net.ensures, c.sheet_query.ensures) (u.fit, omega (arith, c.requires.0, c.is_pruned.auto.scratch), u.whole.source)

pub list_for_sheet-n-requires-clause-blamed : goal.list_for_sheet-n-requires-clause-blamed
list_for_sheet-n-requires-clause-blamed c =
    (unmet (goal.at.list_for_sheet-n-requires-clause-blamed c).Else-not-is_pruned, omega (arith, c.requires.0, c.ready_rows.auto.scratch, c.is_pruned.auto.scratch), omega arith)

pub write_slip-requires : goal.write_slip-requires
write_slip-requires c =
    let room = item_room c.args.sheet.now.whole c.args.item (omega arith) _ c.requires.1 _ c.list_for_sheet-n.ensures in
    rw c.from-first.ensures (record { numbers_small = room.0; slip_fits = room.1 })

pub returns : goal.returns
returns c =
    let W = c.args.sheet.now.whole in
    let l : c.args.item < c.args.sheet.now.header.nodes + c.args.sheet.now.header.arcs = omega arith in
    let w = rw c.from-first.ensures at c.write_slip.ensures in
    let e = ap slip_bytes (item_slip W c.args.item l _ c.list_for_sheet-n.ensures) in
    wrote_bytes _ (pruned W c.args.item l (sym c.is_pruned.ensures ∙ c.if-not-is_pruned.false))
    ((w.0 ∙ ap length e, w.1 ∙ ap (λ (xs : List _). front xs c.args.slip.now) e))
