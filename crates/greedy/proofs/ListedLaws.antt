-- A turn carries the list on by one item. Assumes nothing.
use Prim.Native.Nat.{ℕ, ◌+◌, ◌≤◌, ◌<◌}
use mathlib.Core.Path.{◌≡◌, refl, sym, ap, ◌∙◌, fun_ext}
use mathlib.Core.Bool.{Bool, true, false, true≢false}
use mathlib.Core.List.{List, []}
use native.Mathlib.Omega.{arith}
use lib.ListN.{length, get_or, set}
use lib.Dec.{eqb}
use Rattle.walks.specs.Flat.{graph_of}
use Rattle.walks.specs.declared.arc.Arc.{Arc}
use Rattle.walks.specs.Goals.{exit_of}
use Rattle.walks.specs.Graph.{Graph, item_count, closed_in, least, fits}
use Rattle.rows.specs.Held.{held}
use Rattle.rows.specs.Net.{net_of}
use Rattle.goal_table.specs.Table.{Rowed}
use Rattle.reason_list.specs.Reasons.{reasons}
use Rattle.reason_list.proofs.ReasonLaws.{reasons_alike}
use Rattle.greedy_turn.specs.Turns.{Task, map, source, task_items, Setting, State, Turned}
use Rattle.lists.specs.Lists.{Put}
use Rattle.greedy.proofs.ListingLaws.{Listing, begun, passed_on, left_open, put_down, ended}

-- what holds whenever the loop takes the next item
pub record Going (T : Task) (marks₀ list₀ : List ℕ) (i : ℕ) (marks list : List ℕ) (m : ℕ) (ps : List Arc) (ks : List ℕ) (c : ℕ) (work : List ℕ) : Type 0 where
  pub setting : Setting T
  pub state : State T marks ps ks c work
  pub listing : Listing (map T) (source T) T.to T.cap T.goals marks₀ list₀ i marks list m

pub going_begun : {T : Task} {marks : List ℕ} {ps : List Arc} {ks : List ℕ} {c : ℕ} {work : List ℕ} (list : List ℕ) → Setting T → State T marks ps ks c work
    → Going T marks list 0 marks list 0 ps ks c work
going_begun {T} {marks} list S A = record {
  setting = S;
  state = A;
  listing = begun (map T) (source T) T.to T.cap T.goals marks list A.blocked;
}

module _ {T : Task} {marks₀ list₀ : List ℕ} {i : ℕ} {marks list : List ℕ} {m : ℕ} {ps : List Arc} {ks : List ℕ} {c : ℕ} {work : List ℕ}
    (W : Going T marks₀ list₀ i marks list m ps ks c work) where
  below : i < task_items T → i < item_count (map T)
  below h = omega arith

  -- the item is not listed, for it is open or stays so
  pub going_passed : {marks' : List ℕ} {ps' : List Arc} {ks' : List ℕ} {c' : ℕ} {work' : List ℕ} → i < task_items T → Turned T marks i marks' false
      → State T marks' ps' ks' c' work' → Going T marks₀ list₀ (i + 1) marks' list m ps' ks' c' work'
  going_passed {marks'} h R A = record { setting = W.setting; state = A; listing = go (closed_in marks i) refl }
    where
      go : (b : Bool) → closed_in marks i ≡ b → Listing (map T) (source T) T.to T.cap T.goals marks₀ list₀ (i + 1) marks' list m
      go false p = rw (R.passed p).1 (passed_on (map T) (source T) T.to T.cap T.goals marks₀ list₀ (below h) W.listing p)
      go true p = let t = R.tried p in rw t.1 (left_open (map T) (source T) T.to T.cap T.goals marks₀ list₀ (below h) W.listing p t.0)

  -- the item is listed
  pub going_listed : {marks' : List ℕ} {ps' : List Arc} {ks' : List ℕ} {c' : ℕ} {work' : List ℕ} → i < task_items T → task_items T ≤ length list₀
      → Turned T marks i marks' true → State T marks' ps' ks' c' work' → Going T marks₀ list₀ (i + 1) marks' (set list m i) (m + 1) ps' ks' c' work'
  going_listed {marks'} h room R A = record { setting = W.setting; state = A; listing = go (closed_in marks i) refl }
    where
      go : (b : Bool) → closed_in marks i ≡ b → Listing (map T) (source T) T.to T.cap T.goals marks₀ list₀ (i + 1) marks' (set list m i) (m + 1)
      go false p = absurd (true≢false (R.passed p).0)
      go true p =
          let t = R.tried p in
          rw t.1 (put_down (map T) (source T) T.to T.cap T.goals marks₀ list₀ (below h) W.listing p t.0 (omega arith))

  pub going_room : task_items T ≤ length list₀ → i < task_items T → length list ≡ length list₀ → m < length list
  going_room h k l = omega (arith, W.listing.few)

  pub going_done : i ≡ task_items T → Put (reasons (map T) (source T) T.to T.cap T.goals marks₀) list₀ list m
  going_done q =
      let w = ended (map T) (source T) T.to T.cap T.goals marks₀ list₀ q W.listing in
      (w.1, w.0)

-- the marks in an array of their own close the same items
module _ (marks r : List ℕ) (e : (j : ℕ) → get_or r j 0 ≡ get_or marks j 0) where
  closed_alike : (j : ℕ) → closed_in r j ≡ closed_in marks j
  closed_alike j = ap (λ (x : ℕ). eqb x 2) (e j)

  pub copied_fits : (G : Graph) (s t k : ℕ) (goals : List ℕ) → fits G s t k (closed_in marks) goals ≡ false → fits G s t k (closed_in r) goals ≡ false
  copied_fits G s t k goals q = ap (λ (f : ℕ → Bool). fits G s t k f goals) (fun_ext closed_alike) ∙ q

  pub copied_reasons : (G : Graph) (s t k : ℕ) (goals : List ℕ) → reasons G s t k goals r ≡ reasons G s t k goals marks
  copied_reasons G s t k goals = reasons_alike G s t k goals r marks closed_alike

  -- and the rows in the work are the same
  pub copied_rowed : (n : ℕ) (xs : List Arc) (cap a : ℕ) (goals work : List ℕ) → Rowed (net_of n xs marks) cap a goals work
      → Rowed (net_of n xs r) cap a goals work
  copied_rowed n xs cap a goals work R = record {
    first = λ v h. R.first v h ∙ alike a v;
    rows = λ i h v k. R.rows i h v k ∙ alike (exit_of (graph_of n xs) (get_or goals i 0)) v;
  }
    where
      alike : (s v : ℕ) → held cap (least (graph_of n xs) (closed_in marks) [] s v) ≡ held cap (least (graph_of n xs) (closed_in r) [] s v)
      alike s v = ap (λ (f : ℕ → Bool). held cap (least (graph_of n xs) f [] s v)) (sym (fun_ext closed_alike))
