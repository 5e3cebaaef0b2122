-- `item_length::least_through` meets its contract: the two sums over the rows with this cap are the least length through the item. Assumes nothing.
use Prim.Native.Nat.{ℕ, ◌+◌, ◌<◌}
use mathlib.Core.Path.{◌≡◌, ap, sym, ◌∙◌}
use mathlib.Core.List.{List, [], ◌∷◌}
use lib.ListN.{get_or}
use Rattle.std.specs.declared.option.Option.TheVariants.{Some}
use Rattle.rows.proofs.ArcLaws.{item_at}
use Rattle.rows.specs.Held.{at_most, held}
use Rattle.rows.specs.Net.{Net, graph, closed, count}
use Rattle.rows.specs.Rows.{RowIs, RowTo}
use Rattle.walks.proofs.Through.{through_one}
use Rattle.walks.specs.Goals.{entry_of, exit_of, own_of}
use Rattle.walks.specs.Graph.{least}
use Rattle.walks.specs.Lengths.{Least, none, plus}
use Rattle.goals.proofs.ToldLaws.{told_held, told_left, told_right}
use Rattle.item_length.proofs.least_through.Goals as goal

module _ (N : Net) (cap from to item : ℕ) (below : item < N.nodes + count N) where
  abbrev there : Least
  there = least (graph N) (closed N) [] from (entry_of (graph N) item)

  abbrev own : Least
  own = own_of (graph N) (closed N) item

  abbrev back : Least
  back = least (graph N) (closed N) [] (exit_of (graph N) item) to

  through : plus (plus there own) back ≡ least (graph N) (closed N) (item ∷ []) from to
  through = sym (through_one (graph N) (closed N) item from to (item_at N item below))

  told : (r : Least) → r ≡ at_most cap (plus (plus there own) back) → r ≡ at_most cap (least (graph N) (closed N) (item ∷ []) from to)
  told r e = e ∙ ap (at_most cap) through

-- the rows at the item's ends
there_is : (N : Net) (cap from item : ℕ) (row : List ℕ) → RowIs N cap from row → (M : Net) → M ≡ N → (v : ℕ) → v < M.nodes → v ≡ entry_of (graph M) item
    → get_or row v 0 ≡ held cap (least (graph N) (closed N) [] from (entry_of (graph N) item))
there_is N cap from item row R M e v h q =
    R v (rw e at h) ∙ ap (λ (v : ℕ). held cap (least (graph N) (closed N) [] from v)) (q ∙ ap (λ (M : Net). entry_of (graph M) item) e)

back_is : (N : Net) (cap to item : ℕ) (row : List ℕ) → RowTo N cap to row → (M : Net) → M ≡ N → (v : ℕ) → v < M.nodes → v ≡ exit_of (graph M) item
    → get_or row v 0 ≡ held cap (least (graph N) (closed N) [] (exit_of (graph N) item) to)
back_is N cap to item row R M e v h q =
    R v (rw e at h) ∙ ap (λ (v : ℕ). held cap (least (graph N) (closed N) [] v to)) (q ∙ ap (λ (M : Net). exit_of (graph M) item) e)

pub returns-in_err-own : goal.returns-in_err-own
returns-in_err-own c =
    let N = c.args.net.now in
    let q = c.args.query.now in
    let below = c.requires.item_and_ends.0 in
    let e = rw c.length.ensures.0 at c.in_err-own.ensures in
    rw c.from_residual.ensures
    (told N q.cap q.from q.to c.args.item below none (told_left q.cap _ _ (told_right q.cap (there N q.cap q.from q.to c.args.item below) _ e)))

pub returns-in_err-past : goal.returns-in_err-past
returns-in_err-past c =
    let N = c.args.net.now in
    let q = c.args.query.now in
    let below = c.requires.item_and_ends.0 in
    let o = rw c.length.ensures.0 at c.in_ok-own.ensures in
    let x = told_held q.cap _ (Some c.in_ok-own.own) o in
    let f = there_is N q.cap q.from c.args.item c.row_from.new.row c.row_from.ensures.0 _ c.net.view_is _ c.entry-entry.ensures.1 c.entry-entry.ensures.0 in
    rw c.from_residual-in_err-past.ensures
    (told N q.cap q.from q.to c.args.item below none (told_left q.cap _ _ (c.in_err-past.ensures _ _ f x)))

pub returns : goal.returns
returns c =
    let N = c.args.net.now in
    let q = c.args.query.now in
    let below = c.requires.item_and_ends.0 in
    let o = rw c.length.ensures.0 at c.in_ok-own.ensures in
    let x = told_held q.cap _ (Some c.in_ok-own.own) o in
    let f = there_is N q.cap q.from c.args.item c.row_from.new.row c.row_from.ensures.0 _ c.net.view_is _ c.entry-entry.ensures.1 c.entry-entry.ensures.0 in
    let t = back_is N q.cap q.to c.args.item c.row_to.new.row c.row_to.ensures.0 _ c.net.view_is _ c.exit-exit.ensures.1 c.exit-exit.ensures.0 in
    let p = told_held q.cap _ (Some c.in_ok-past.past) (c.in_ok-past.ensures _ _ f x) in
    told N q.cap q.from q.to c.args.item below _ (c.sum-2.ensures _ _ p t)
