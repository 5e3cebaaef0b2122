-- `greedy::list_reasons` meets its contract: the marks are copied, and the copy closes the same items. Assumes nothing.
use Prim.Native.Nat.{◌+◌, ◌<◌}
use mathlib.Core.Path.{◌∙◌}
use native.Mathlib.Omega.{arith}
use borrow.Author.Rules.{rules}
use lib.ListN.{length, get_or, take}
use Rattle.lists.specs.Lists.{Put}
use Rattle.walks.specs.Flat.{graph_of}
use Rattle.rows.specs.Held.{missing}
use Rattle.rows.specs.Net.{net_of, Proper}
use Rattle.reason_list.specs.Reasons.{reasons}
use Rattle.goal_table.specs.Table.{GoalsFit}
use Rattle.lengths.proofs.PartLaws.{front_count, front_starts}
use Rattle.row_links.proofs.LinkLaws.{linked_all}
use Rattle.greedy.proofs.ListedLaws.{copied_fits, copied_reasons, copied_rowed}
use Rattle.greedy.proofs.PlaceLaws.{setting_of, state_of}
use Rattle.greedy.proofs.list_reasons.Goals as goal

pub fill_list-requires : goal.fill_list-requires
fill_list-requires c =
    let a = c.args in
    let query = c.args.query.now in
    let i = c.net.inside in
    let k = c.copied-open in
    let few = rw (← c.net.view_is) at c.requires.few_arcs in
    let p = c.net.invariant in
    let f = rw (← c.net.view_is) at c.requires.goals_fit in
    let L = rw (← c.net.view_is) at c.requires.listable in
    let u = rw (← c.net.view_is) at c.requires.no_walk_fits in
    let G = graph_of i.nodes i.arcs.now in
    let M = net_of i.nodes i.arcs.now k.result in
    let p' : Proper M = record { few = p.few; marked = omega (arith, p.marked, f.1, k.ensures.0); tails = p.tails; heads = p.heads } in
    let g' : GoalsFit M a.goals.now = record { eight = f.0.eight; below = f.0.below; distinct = f.0.distinct } in
    let ss = c.set_starts.new.starts in
    let l : length a.goals.now < length ss = omega (arith, c.set_starts.auto.starts, f.0.eight) in
    let S = front_starts M query.from a.goals.now ss c.set_starts.ensures l in
    let m = c.length.ensures in
    let small : query.cap < missing = omega arith in
    let noted = rw m.0 at c.note_goals.ensures.noted in
    let n = front_count M query.from a.goals.now ss c.set_starts.ensures l in (
      setting_of p' g' S n few L.3 small,
      state_of p' g' S n (linked_all few (search rules) c.pack.ensures) (c.note_goals.auto.work ∙ L.0) noted c.note_goals.ensures.only_notes_written.0 (
        copied_fits i.marks.now k.result k.ensures.1 G query.from query.to query.cap a.goals.now u.0,
        copied_rowed i.marks.now k.result k.ensures.1 i.nodes i.arcs.now query.cap query.from a.goals.now a.work.now u.1,
      ),
      L.1,
    )

pub returns : goal.returns
returns c =
    let a = c.args in
    let query = c.args.query.now in
    let i = c.net.inside in
    let k = c.copied-open in
    let f = rw (← c.net.view_is) at c.requires.goals_fit in
    let G = graph_of i.nodes i.arcs.now in
    let M = net_of i.nodes i.arcs.now k.result in
    let ss = c.set_starts.new.starts in
    let l : length a.goals.now < length ss = omega (arith, c.set_starts.auto.starts, f.0.eight) in
    let S = front_starts M query.from a.goals.now ss c.set_starts.ensures l in
    let from = get_or (take (length a.goals.now + 1) ss) 0 0 in
    let w : Put (reasons G from query.to query.cap a.goals.now k.result) a.list.now c.fill_list.new.list c.fill_list.result = c.fill_list.ensures in
    rw (← c.net.view_is)
    (rw (S.source, copied_reasons i.marks.now k.result k.ensures.1 G query.from query.to query.cap a.goals.now) at w)
