-- The rows and notes with which the table is begun, and the whole asked for. Assumes nothing.
use Prim.Native.Nat.{ℕ, zero, suc, ◌+◌, ◌*◌, ◌-◌, ◌^◌, ◌≤◌, ◌<◌}
use mathlib.Core.Path.{◌≡◌, refl, sym, ap, ◌∙◌}
use mathlib.Core.List.{List, []}
use native.Mathlib.Omega.{arith}
use native.Mathlib.Nat.{one-le-pow}
use lib.ListN.{length, get_or, set, take, drop, length-set}
use lib.Seq.{get_or-set_same, get_or-set_other, get_or-take, take-set-le, drop-set-lt, length-take-le}
use borrow.Author.Count.{below_more}
use native.Mathlib.Decide.{ℕ_discrete}
use mathlib.Core.Logic.{◌≢◌}
use Rattle.rows.proofs.ArcLaws.{entry_below}
use Rattle.rows.specs.Held.{held}
use Rattle.rows.specs.Net.{Net, graph, closed, Proper, Packed}
use Rattle.rows.specs.Rows.{RowsAre, StartsOf, StartsFit}
use Rattle.walks.specs.declared.arc.Arc.{Arc}
use Rattle.walks.specs.Graph.{Graph, least}
use Rattle.walks.specs.Goals.{entry_of, exit_of, own_of}
use Rattle.goal_table.proofs.SetLaws.{length_none, chosen_all}
use Rattle.goal_table.proofs.TableLaws.{same_front, asked_of}
use Rattle.goal_table.specs.Sets.{chosen}
use Rattle.goal_table.specs.Table.{GoalsFit, StartsTo, StartsAre, Rowed, NotedTo, Noted, Filled, SetAsked, TableFits}

-- the rows of the starts are those from a and from where each goal is left
pub rowed_of : {N : Net} {cap a : ℕ} {goals starts work : List ℕ} (n : ℕ) → n ≡ length goals + 1 → StartsAre (graph N) a goals starts → RowsAre N cap starts n work
    → Rowed N cap a goals work
rowed_of {N} {cap} {work = work} n q S R = record {
  first = λ v hv.
      let e : v ≡ 0 * 64 + v = omega arith in
      ap (λ (k : ℕ). get_or work k 0) e ∙ R 0 (omega arith) v hv ∙ ap (λ (s : ℕ). held cap (least (graph N) (closed N) [] s v)) S.source;
  rows = λ i h v hv.
      let e : 64 + i * 64 + v ≡ (i + 1) * 64 + v = omega arith in
      rw e (R (i + 1) (omega arith) v hv ∙ ap (λ (s : ℕ). held cap (least (graph N) (closed N) [] s v)) (S.exits i h));
}

-- and the other way round
pub rows_of : {N : Net} {cap a n : ℕ} {goals starts work : List ℕ} → n ≡ length goals + 1 → StartsAre (graph N) a goals starts → Rowed N cap a goals work
    → RowsAre N cap starts n work
rows_of {N} {cap} {goals = goals} {starts} {work} q S R i h v hv = go i (omega arith)
  where
    go : (i : ℕ) → i < length goals + 1 → get_or work (i * 64 + v) 0 ≡ held cap (least (graph N) (closed N) [] (get_or starts i 0) v)
    go zero l =
        let e : 0 * 64 + v ≡ v = omega arith in
        ap (λ (k : ℕ). get_or work k 0) e ∙ R.first v hv ∙ ap (λ (s : ℕ). held cap (least (graph N) (closed N) [] s v)) (sym S.source)
    go (suc j) l =
        let e : suc j * 64 + v ≡ 64 + j * 64 + v = omega arith in
        let d : j + 1 ≡ suc j = omega arith in
        ap (λ (k : ℕ). get_or work k 0) e ∙ R.rows j (omega arith) v hv
        ∙ ap (λ (s : ℕ). held cap (least (graph N) (closed N) [] s v)) (sym (S.exits j (omega arith)) ∙ ap (λ (k : ℕ). get_or starts k 0) d)

pub start_begun : (G : Graph) (a : ℕ) (goals starts : List ℕ) → a < G.nodes → 0 < length starts → StartsTo G a goals 0 (set starts 0 a)
start_begun G a goals starts h l = record {
  source = get_or-set_same starts 0 a 0 l;
  exits = λ i k. absurd (omega arith);
  inside = λ i k. let q : i ≡ 0 = omega arith in rw (q, get_or-set_same starts 0 a 0 l) h;
}

-- one goal more
pub start_more : {G : Graph} {a : ℕ} {goals : List ℕ} {i : ℕ} {starts : List ℕ} (x : ℕ) → i + 1 < length starts → x ≡ exit_of G (get_or goals i 0) → x < G.nodes
    → StartsTo G a goals i starts → StartsTo G a goals (i + 1) (set starts (i + 1) x)
start_more {G} {a} {goals} {i} {starts} x l e h S = record {
  source = other 0 (λ q. omega arith) ∙ S.source;
  exits = below_more _ i (λ j k. other (j + 1) (λ q. omega arith) ∙ S.exits j k) (here ∙ e);
  inside = λ j k. inside j (ℕ_discrete j (i + 1)) k;
}
  where
    here : get_or (set starts (i + 1) x) (i + 1) 0 ≡ x
    here = get_or-set_same starts (i + 1) x 0 l

    other : (k : ℕ) → k ≢ i + 1 → get_or (set starts (i + 1) x) k 0 ≡ get_or starts k 0
    other k q = get_or-set_other starts (i + 1) k x 0 q

    inside : (j : ℕ) → Dec (j ≡ i + 1) → j ≤ i + 1 → get_or (set starts (i + 1) x) j 0 < G.nodes
    inside j (yes q) k = rw (q, here) h
    inside j (no q) k = rw (other j q) (S.inside j (omega arith))

-- the starts at the front of a list that has room for more
module _ (N : Net) (a : ℕ) (goals starts : List ℕ) (S : StartsAre (graph N) a goals starts) (l : length goals < length starts) where
  pub front_count : length (take (length goals + 1) starts) ≡ length goals + 1
  front_count = length-take-le (length goals + 1) starts (omega arith)

  at_front : (i : ℕ) → i < length goals + 1 → get_or (take (length goals + 1) starts) i 0 ≡ get_or starts i 0
  at_front i h = get_or-take (length goals + 1) starts i 0 h

  pub front_starts : StartsAre (graph N) a goals (take (length goals + 1) starts)
  front_starts = record {
    source = at_front 0 (omega arith) ∙ S.source;
    exits = λ i h. at_front (i + 1) (omega arith) ∙ S.exits i h;
    inside = λ i h. rw (at_front i (omega arith)) (S.inside i h);
  }

  front_inside : (i : ℕ) → i < length (take (length goals + 1) starts) → get_or (take (length goals + 1) starts) i 0 < N.nodes
  front_inside i h = front_starts.inside i (omega (arith, front_count))

  pub starts_fit : (work : List ℕ) → Proper N → length goals ≤ 8 → 3072 ≤ length work → StartsFit N.marks (take (length goals + 1) starts) work
  starts_fit work p g w = record {
    places = λ i h. omega (arith, front_inside i h, p.few);
    marked = λ i h. omega (arith, front_inside i h, p.marked);
    room = omega (arith, front_count);
  }

  pub starts_of : (xs : List Arc) → Proper N → Packed N xs → StartsOf N xs N.marks (take (length goals + 1) starts)
  starts_of xs p P = record { proper = p; marked = refl; packed = P; nodes = front_inside }

-- where goal i is entered and its own length are noted
module _ (work : List ℕ) (i x y : ℕ) (l : 592 ≤ length work) (h : i < 8) where
  other : (k : ℕ) → k ≢ 576 + i → k ≢ 584 + i → get_or (set (set work (576 + i) x) (584 + i) y) k 0 ≡ get_or work k 0
  other k p q = get_or-set_other (set work (576 + i) x) (584 + i) k y 0 q ∙ get_or-set_other work (576 + i) k x 0 p

  pub note_more : {N : Net} {cap : ℕ} {goals : List ℕ} → x ≡ entry_of (graph N) (get_or goals i 0) → y ≡ held cap (own_of (graph N) (closed N) (get_or goals i 0)) → NotedTo N cap goals i work
      → NotedTo N cap goals (i + 1) (set (set work (576 + i) x) (584 + i) y)
  note_more p q E = record {
    entries = below_more _ i (λ j k. other (576 + j) (λ e. omega arith) (λ e. omega arith) ∙ E.entries j k)
        (get_or-set_other (set work (576 + i) x) (584 + i) (576 + i) y 0 (λ e. omega arith) ∙ get_or-set_same work (576 + i) x 0 (omega arith) ∙ p);
    owns = below_more _ i (λ j k. other (584 + j) (λ e. omega arith) (λ e. omega arith) ∙ E.owns j k)
        (get_or-set_same (set work (576 + i) x) (584 + i) y 0 (simp length-set (omega arith)) ∙ q);
  }

-- only the notes are touched
pub note_front : (work : List ℕ) (i x y : ℕ) → take 576 (set (set work (576 + i) x) (584 + i) y) ≡ take 576 work
note_front work i x y = take-set-le 576 (set work (576 + i) x) (584 + i) y (omega arith) ∙ take-set-le 576 work (576 + i) x (omega arith)

pub note_behind : (work : List ℕ) (i x y : ℕ) → i < 8 → drop 592 (set (set work (576 + i) x) (584 + i) y) ≡ drop 592 work
note_behind work i x y h = drop-set-lt 592 (set work (576 + i) x) (584 + i) y (omega arith) ∙ drop-set-lt 592 work (576 + i) x (omega arith)

-- rows stay where the work's front does
pub rowed_kept : {N : Net} {cap a : ℕ} {goals work after : List ℕ} → N.nodes ≤ 64 → length goals ≤ 8 → take 576 after ≡ take 576 work → Rowed N cap a goals work
    → Rowed N cap a goals after
rowed_kept {work = work} {after = after} few l e R = record {
  first = λ v hv. same_front 576 work after e v (omega arith) ∙ R.first v hv;
  rows = λ i h v hv. same_front 576 work after e (64 + i * 64 + v) (omega arith) ∙ R.rows i h v hv;
}

-- the table has its place
pub table_room : {N : Net} {cap : ℕ} {goals work : List ℕ} → Proper N → GoalsFit N goals → 3072 ≤ length work → Noted N cap goals work → TableFits (length goals) work
table_room {N} p g l E = record {
  long = l;
  eight = g.eight;
  entries = λ i h. rw (E.entries i h) (omega (arith, entry_below N _ p (g.below i h), p.few));
}

-- the table is begun
pub filled_begun : {N : Net} {cap a : ℕ} {goals work : List ℕ} → Proper N → GoalsFit N goals → Rowed N cap a goals work → Noted N cap goals work
    → Filled N cap a goals 0 work
filled_begun {N} p g R E = record {
  small = p.few;
  fit = g;
  rowed = R;
  noted = E;
  inside = λ i h. rw (E.entries i h) (entry_below N _ p (g.below i h));
  sets = λ S h. absurd (omega arith);
}

-- the whole: all sets filled, and the set of all goals asked, where there are any
module _ {N : Net} {cap a : ℕ} {goals work : List ℕ} (k v : ℕ) (l : length goals ≡ k) (F : Filled N cap a goals (2 ^ k) work) (h : v < N.nodes) where
  pub no_goals : k ≡ 0 → get_or work v 0 ≡ held cap (least (graph N) (closed N) goals a v)
  no_goals z = rw (length_none goals (l ∙ z)) (F.rowed.first v h)

  pub all_goals : (set r : ℕ) → set ≡ 2 ^ k - 1
      → ((N : Net) (a : ℕ) (goals' : List ℕ) → SetAsked N cap a goals' set v work → r ≡ held cap (least (graph N) (closed N) (chosen goals' set) a v))
      → r ≡ held cap (least (graph N) (closed N) goals a v)
  all_goals set r q reach =
      let p : 1 ≤ 2 ^ k = one-le-pow k 2 (omega arith) in
      let e : chosen goals set ≡ goals = ap (chosen goals) (q ∙ ap (λ (n : ℕ). 2 ^ n - 1) (sym l)) ∙ chosen_all goals in
      reach N a goals (asked_of F set v (omega arith) (rw l (omega arith)) h) ∙ ap (λ (gs : List ℕ). held cap (least (graph N) (closed N) gs a v)) e
