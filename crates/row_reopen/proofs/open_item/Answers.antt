-- `row_reopen::open_item` meets its contract: a node opens with all rows mended, an arc with those that it cuts; an arc to a closed node changes nothing. Assumes nothing.
use mathlib.Core.Path.{sym, ◌∙◌}
use native.Mathlib.Omega.{arith}
use lib.ListN.{take}
use Rattle.rows.proofs.BitLaws.{bit_own}
use Rattle.row_reopen.proofs.ItemLaws.{item_node, item_arc, item_shut}
use Rattle.row_reopen.proofs.open_item.Goals as goal

pub returns-then-item-net : goal.returns-then-item-net
returns-then-item-net c =
    let a = c.args in
    let i = c.net.inside in
    let m = c.mend_all in
    rw (← c.net.view_is)
    (item_node i.nodes i.arcs.now a.item a.cap i.marks.now (take a.links.now.count a.links.now.arcs) a.starts.now a.work.now
    m.new.work m.result.bits c.entering.result (rw c.length.ensures.0 at c.length.ensures.1) c.if-item-net.true (rw c.arcs.ensures at c.entering.ensures)
    m.ensures.cut_rows_saved m.ensures.rows_mended m.ensures.away_same_and_others_spared.0 m.ensures.away_same_and_others_spared.1)

pub returns-then-is_closed : goal.returns-then-is_closed
returns-then-is_closed c =
    let a = c.args in
    let i = c.net.inside in
    let v = rw (← c.net.view_is) at c.head-head.ensures.0 in
    let q = rw (← c.net.view_is) at (sym c.is_closed.ensures ∙ c.if-is_closed.true) in
    rw (← c.net.view_is)
    (item_shut i.nodes i.arcs.now a.item a.cap i.marks.now (take a.links.now.count a.links.now.arcs) a.starts.now a.work.now
    (rw c.length.ensures.0 at c.length.ensures.1) (omega arith) (rw v at q))

pub returns : goal.returns
returns c =
    let a = c.args in
    let i = c.net.inside in
    let u = rw (← c.net.view_is) at c.tail-tail.ensures in
    let v = rw (← c.net.view_is) at c.head-head.ensures.0 in
    let w = rw (← c.net.view_is) at c.arc.ensures in
    let q = rw (← c.net.view_is) at (sym c.is_closed.ensures ∙ c.if-is_closed.false) in
    let m = c.mend_all-2 in
    let e = rw (u.0, w) at m.ensures in
    rw (← c.net.view_is)
    (item_arc i.nodes i.arcs.now a.item a.cap i.marks.now (take a.links.now.count a.links.now.arcs) a.starts.now a.work.now
    m.new.work m.result.bits _ (rw c.length.ensures.0 at c.length.ensures.1) (omega arith) (rw v at q)
    (bit_own _ (omega (arith, rw u.0 at u.1, c.net.invariant.few))) e.cut_rows_saved e.rows_mended
    e.away_same_and_others_spared.0 e.away_same_and_others_spared.1)
