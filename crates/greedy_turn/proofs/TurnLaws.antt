-- An item is opened, with the rows settled again: where no entry that matters is another, no walk fits that did not before; else the table tells.
-- Assumes nothing.
use Prim.Native.Nat.{ℕ, ◌+◌, ◌*◌, ◌≤◌, ◌<◌}
use mathlib.Core.Path.{◌≡◌, refl, sym, ap, ◌∙◌, subst}
use mathlib.Core.Logic.{◌⊎◌, inl, inr, ⊎_elim}
use mathlib.Core.Bool.{Bool, true, false, not, true≢false}
use mathlib.Core.List.{List, []}
use native.Mathlib.Omega.{arith}
use native.Mathlib.Decide.{ℕ_discrete}
use lib.ListN.{length, get_or, take, set, length-set}
use lib.Seq.{take-take, set-set, set-get_or}
use lib.Dec.{eqb, leb}
use Rattle.std.proofs.lemmas.Grind.{get_or_default_zero}
use borrow.Author.Tests.{eqb-true}
use Rattle.lists.specs.Lists.{member}
use Rattle.lists.proofs.MemberLaws.{member_place, member_away}
use Rattle.walks.specs.declared.arc.Arc.{Arc}
use Rattle.walks.specs.Graph.{Graph, closed_in, least}
use Rattle.walks.specs.Goals.{entry_of, exit_of, own_of}
use Rattle.walks.proofs.OpenedLaws.{open_other}
use Rattle.rows.specs.Held.{held}
use Rattle.rows.specs.Net.{Net, Proper, Packed}
use Rattle.rows.specs.Rows.{StartsFit}
use Rattle.rows.proofs.ArcLaws.{item_at, entry_below}
use Rattle.goal_table.specs.Table.{GoalsFit, Noted}
use Rattle.goal_table.proofs.TableLaws.{same_front}
use Rattle.lengths.proofs.PartLaws.{rowed_of}
use Rattle.rows.specs.Bits.{bit_of}
use Rattle.rows.proofs.BitLaws.{bit_small}
use Rattle.rows.proofs.HeldLaws.{fits_held}
use Rattle.rows.proofs.WorkLaws.{rows_same}
use Rattle.row_save.specs.Kept.{RowsBack}
use Rattle.row_save.specs.Unmoved.{Unmoved}
use Rattle.row_links.specs.Links.{Linked}
use Rattle.row_reopen.specs.Openings.{Opened, ItemOpened}
use Rattle.greedy_turn.specs.Turns.{Task, map, net, source, task_items, Setting, fits_at, Told, NotedBeside, RowsFor, Ready, InTurn, TurnJudged, State, Turned}
use Rattle.greedy_turn.proofs.SameLaws.{Same, Alike, goals_same}

own_same : (G : Graph) (old : List ℕ) (i g : ℕ) → (g ≡ i → ⊥) → own_of G (closed_in (set old i 0)) g ≡ own_of G (closed_in old) g
unfolding own_of
own_same G old i g q = rw (open_other old i g q)

-- b is a node with the same entry in each row before and after
abbrev pub Stop : Task → List ℕ → List ℕ → ℕ → Type 0
Stop T before after b = (b < T.nodes) × ((j : ℕ) → j < length T.starts → get_or before (j * 64 + b) 0 ≡ get_or after (j * 64 + b) 0)

module _ {T : Task} (S : Setting T) where
  pub set_proper : (marks : List ℕ) → task_items T ≤ length marks → Proper (net T marks)
  set_proper marks h = record { few = S.few; marked = h; tails = λ i k. (S.joins i k).0; heads = λ i k. (S.joins i k).1 }

  pub set_goals : (marks : List ℕ) → GoalsFit (net T marks) T.goals
  set_goals marks = record { eight = S.eight; below = S.below; distinct = S.distinct }

  pub set_nodes : (i : ℕ) → i < length T.starts → get_or T.starts i 0 < T.nodes
  set_nodes i h = S.begin.inside i (omega (arith, S.counted))

  pub set_fit : (marks work : List ℕ) → task_items T ≤ length marks → 576 ≤ length work → StartsFit marks T.starts work
  set_fit marks work m w = record {
    places = λ i h. omega (arith, set_nodes i h, S.few);
    marked = λ i h. omega (arith, set_nodes i h);
    room = omega (arith, S.counted, S.eight);
  }

  -- rows stay where the work's front does
  pub rows_kept : (marks work after : List ℕ) → take 576 after ≡ take 576 work → RowsFor T marks work → RowsFor T marks after
  rows_kept marks work after e =
      rows_same (net T marks) T.cap T.starts (length T.starts) work after S.few
      (λ j h. same_front 576 work after e j (omega (arith, S.counted, S.eight)))

  -- opening an item that is no goal keeps the goals' entries and own lengths
  module _ (old : List ℕ) (i : ℕ) (marks : List ℕ) (e : marks ≡ set old i 0) (away : member i T.goals ≡ false) where
    own_kept : (j : ℕ) → j < length T.goals → own_of (map T) (closed_in old) (get_or T.goals j 0) ≡ own_of (map T) (closed_in marks) (get_or T.goals j 0)
    own_kept j h =
        sym (own_same (map T) old i (get_or T.goals j 0) (member_away i T.goals away j h))
        ∙ ap (λ (ms : List ℕ). own_of (map T) (closed_in ms) (get_or T.goals j 0)) (sym e)

    pub noted_same : (work after : List ℕ) → ((j : ℕ) → 576 ≤ j → j < 592 → get_or after j 0 ≡ get_or work j 0) → Noted (net T old) T.cap T.goals work
        → Noted (net T marks) T.cap T.goals after
    noted_same work after same N = record {
      entries = λ j h. same (576 + j) (omega arith) (omega (arith, S.eight)) ∙ N.entries j h;
      owns = λ j h. same (584 + j) (omega arith) (omega (arith, S.eight)) ∙ N.owns j h ∙ ap (held T.cap) (own_kept j h);
    }

    -- and a walk fits as before, where no entry that matters is another
    module _ (before after : List ℕ) (R : RowsFor T old before) (R' : RowsFor T marks after) where
      at_row : (j b : ℕ) → j < length T.starts → Stop T before after b
          → Same T.cap (least (map T) (closed_in old) [] (get_or T.starts j 0) b) (least (map T) (closed_in marks) [] (get_or T.starts j 0) b)
      at_row j b h s = sym (R j h b s.0) ∙ s.1 j h ∙ R' j h b s.0

      pub fits_same : Stop T before after T.to → ((j : ℕ) → j < length T.goals → Stop T before after (entry_of (map T) (get_or T.goals j 0)))
          → fits_at T marks ≡ fits_at T old
      fits_same s g =
          fits_held (map T) (source T) T.to T.cap (closed_in marks) T.goals S.small
          ∙ ap (λ (x : ℕ). leb x T.cap) (sym (goals_same alike T.to s))
          ∙ sym (fits_held (map T) (source T) T.to T.cap (closed_in old) T.goals S.small)
        where
          alike : Alike (map T) (closed_in old) (closed_in marks) T.cap (source T) T.goals (Stop T before after)
          alike = record {
            small = S.small;
            item = λ x m. let t = member_place x T.goals m in rw t.2 (item_at (net T old) (get_or T.goals t.0 0) (S.below t.0 t.1));
            entry = λ x m. let t = member_place x T.goals m in rw t.2 (g t.0 t.1);
            first = λ b q. at_row 0 b (omega (arith, S.counted)) q;
            rows = λ x b m q.
                let t = member_place x T.goals m in
                let d : get_or T.starts (t.0 + 1) 0 ≡ exit_of (map T) x = S.begin.exits t.0 t.1 ∙ ap (exit_of (map T)) (sym t.2) in
                subst (λ (a : ℕ). Same T.cap (least (map T) (closed_in old) [] a b) (least (map T) (closed_in marks) [] a b)) d
                (at_row (t.0 + 1) b (omega (arith, S.counted, t.1)) q);
            own = λ x m. let t = member_place x T.goals m in rw t.2 (ap (held T.cap) (own_kept t.0 t.1));
          }

pub front_less : (work after : List ℕ) → take 1024 after ≡ take 1024 work → take 576 after ≡ take 576 work
front_less work after e = sym (take-take 576 1024 after (omega arith)) ∙ ap (take 576) e ∙ take-take 576 1024 work (omega arith)

pub noted_kept : (N : Net) (cap : ℕ) (goals work after : List ℕ) → length goals ≤ 8 → take 1024 after ≡ take 1024 work → Noted N cap goals work
    → Noted N cap goals after
noted_kept N cap goals work after eight e E = record {
  entries = λ j h. same_front 1024 work after e (576 + j) (omega arith) ∙ E.entries j h;
  owns = λ j h. same_front 1024 work after e (584 + j) (omega arith) ∙ E.owns j h;
}

-- the marks with the item open, as the code has them
pub opening : {T : Task} → Setting T → (old : List ℕ) {i : ℕ} {marks : List ℕ} {ys : List Arc} → marks ≡ set old i 0
    → task_items T ≤ length marks → i < task_items T → Packed (net T marks) ys → Opened T.nodes T.arcs old i marks ys T.starts
opening S old {i} e m h P = record {
  proper = set_proper S old (omega (arith, ap length e, length-set old i 0));
  below = h;
  opened = e;
  packed = P;
  nodes = set_nodes S;
}

-- The two ways to the answer: nothing that matters changed, and the table was asked.
module _ {T : Task} (S : Setting T) {old : List ℕ} {i : ℕ} {marks : List ℕ} {ys : List Arc} (O : Opened T.nodes T.arcs old i marks ys T.starts) {work : List ℕ}
    (W : Ready T old work) {mid : List ℕ} {kept : ℕ} (I : ItemOpened T.nodes T.arcs i T.cap marks ys T.starts work mid kept) {n : ℕ}
    (count : n ≡ length T.starts) where
  rows : RowsFor T marks mid
  rows = I.rows old O W.rows

  -- each row is kept, or as it was
  bit : (j : ℕ) → (bit_of kept j ≡ 1) ⊎ (bit_of kept j ≡ 0)
  bit j = elim (ℕ_discrete (bit_of kept j) 1) [ yes q ↦ inl q | no q ↦ inr (omega (arith, bit_small kept j)) ]

  module _ (B : fits_at T old ≡ false) (away : member i T.goals ≡ false) where
    noted : Noted (net T marks) T.cap T.goals mid
    noted = noted_same S old i marks O.opened away work mid (λ j h k. I.saves.beside j (omega (arith, S.counted, S.eight)) (omega arith)) W.noted

    pub judged_unmoved : Unmoved mid n kept (length T.goals) T.to → TurnJudged T old marks mid true
    judged_unmoved U = record {
      answer =
          fits_same S old i marks O.opened away work mid W.rows rows (S.target, λ j h. stays j T.to S.target h (λ b. (U j (omega arith) b).target))
          (λ k l. let e = inside k l in (e, λ j h. stays j _ e h (λ b. rw (noted.entries k l) at ((U j (omega arith) b).goals k l)))) ∙ B;
      opened = λ _. record { rows = rows; noted = noted };
      back = λ t. absurd (true≢false t);
    }
      where
        inside : (j : ℕ) → j < length T.goals → entry_of (map T) (get_or T.goals j 0) < T.nodes
        inside j h = entry_below (net T old) (get_or T.goals j 0) O.proper (S.below j h)

        stays : (j b : ℕ) → b < T.nodes → j < length T.starts → (bit_of kept j ≡ 1 → get_or mid (3072 + j * 64 + b) 0 ≡ get_or mid (j * 64 + b) 0)
            → get_or work (j * 64 + b) 0 ≡ get_or mid (j * 64 + b) 0
        stays j b l h q =
            let few = S.few in
            ⊎_elim (λ o. sym (I.saves.copies j h o b (omega arith)) ∙ q o) (λ z. sym (I.saves.same j h z b (omega arith))) (bit j)

  pub judged_asked : (after : List ℕ) (r : Bool) {from : ℕ} → from ≡ source T → Told (net T marks) from T.to T.cap T.goals mid (not r)
      → (r ≡ true → NotedBeside (net T marks) T.cap T.goals mid after) → (r ≡ false → RowsBack mid n kept after) → TurnJudged T old marks after r
  judged_asked after r e a t f = record {
    answer = (rw e at a) (rowed_of (length T.starts) S.counted S.begin rows);
    opened = λ q. record { rows = rows_kept S marks mid after (t q).front rows; noted = (t q).noted };
    back = λ q j h v hv.
        let few = S.few in
        ⊎_elim (λ o. (f q).back j (omega arith) o v (omega arith) ∙ I.saves.copies j h o v (omega arith))
        (λ z. (f q).same j (omega arith) z v (omega arith) ∙ I.saves.same j h z v (omega arith)) (bit j) ∙ W.rows j h v hv;
  }

-- what a mark that is read tells
pub mark_read : (marks : List ℕ) (i m : ℕ) {b : Bool} → m ≡ get_or marks i m → b ≡ eqb m 2 → i < length marks → closed_in marks i ≡ b
mark_read marks i m e q h = ap (λ (m : ℕ). eqb m 2) (sym (get_or_default_zero marks i m h) ∙ sym e) ∙ sym q

-- an item that was closed is closed again
pub closed_again : (marks : List ℕ) (i : ℕ) → closed_in marks i ≡ true → set (set marks i 0) i 2 ≡ marks
closed_again marks i q = set-set marks i 0 2 ∙ ap (set marks i) (sym (eqb-true (get_or marks i 0) 2 q)) ∙ set-get_or marks i 0

-- The three ways of a turn: the item is open, it is opened, and it is closed again and listed.
module _ {T : Task} {marks : List ℕ} {i : ℕ} where
  pub turn_passed : closed_in marks i ≡ false → Turned T marks i marks false
  turn_passed p = record { passed = λ _. (refl, refl); tried = λ q. absurd (true≢false (sym q ∙ p)) }

  module _ (p : closed_in marks i ≡ true) where
    pub turn_opened : {after : List ℕ} → TurnJudged T marks (set marks i 0) after true → Turned T marks i (set marks i 0) false
    turn_opened J = record { passed = λ q. absurd (true≢false (sym p ∙ q)); tried = λ _. (J.answer, refl) }

    pub turn_listed : {after : List ℕ} → TurnJudged T marks (set marks i 0) after false → Turned T marks i (set (set marks i 0) i 2) true
    turn_listed J = record { passed = λ q. absurd (true≢false (sym p ∙ q)); tried = λ _. (J.answer, closed_again marks i p) }

module _ {T : Task} {marks : List ℕ} {ps : List Arc} {ks : List ℕ} {c : ℕ} {work : List ℕ} (S : Setting T) (A : State T marks ps ks c work) (i : ℕ) where
  pub entries_below : (j : ℕ) → j < length T.goals → get_or work (576 + j) 0 < 64
  entries_below j h =
      let e = entry_below (net T marks) (get_or T.goals j 0) (set_proper S marks A.marked) (S.below j h) in
      omega (arith, A.ready.noted.entries j h, S.few)

  pub in_turn : {ps' : List Arc} {ks' : List ℕ} {c' : ℕ} → i < task_items T → Linked (net T (set marks i 0)) c' ps' ks'
      → InTurn T i (set marks i 0) ps' ks' c' work
  in_turn h L = record { below = h; marked = simp length-set A.marked; links = L; long = A.long; entered = entries_below }

  pub state_opened : {ps' : List Arc} {ks' work' : List ℕ} {c' : ℕ} → length work' ≡ length work → Linked (net T (set marks i 0)) c' ps' ks'
      → TurnJudged T marks (set marks i 0) work' true → State T (set marks i 0) ps' ks' c' work'
  state_opened w L J = record {
    marked = omega (arith, A.marked, length-set marks i 0);
    links = L;
    long = w ∙ A.long;
    ready = J.opened refl;
    blocked = J.answer;
  }

  pub state_listed : {ps' : List Arc} {ks' mid work' : List ℕ} {c' : ℕ} → closed_in marks i ≡ true → length work' ≡ length work
      → Linked (net T (set (set marks i 0) i 2)) c' ps' ks' → TurnJudged T marks (set marks i 0) mid false
      → Noted (net T (set (set marks i 0) i 2)) T.cap T.goals work' → take 576 work' ≡ take 576 mid
      → State T (set (set marks i 0) i 2) ps' ks' c' work'
  state_listed {mid = mid} {work' = work'} p w L J N e = record {
    marked = omega (arith, A.marked, length-set marks i 0, length-set (set marks i 0) i 2);
    links = L;
    long = w ∙ A.long;
    ready = record { rows = rw (closed_again marks i p) (rows_kept S marks mid work' e (J.back refl)); noted = N };
    blocked = rw (closed_again marks i p) A.blocked;
  }
