-- The table over sets of goals: what its entries say, and what a store keeps. Assumes nothing.
use Prim.Native.Nat.{ℕ, ◌+◌, ◌*◌, ◌-◌, ◌%◌, ◌^◌, ◌≤◌, ◌<◌}
use mathlib.Core.Path.{◌≡◌, refl, sym, ap, ◌∙◌, subst}
use mathlib.Core.Logic.{◌≢◌}
use mathlib.Core.List.{List, []}
use mathlib.Core.Bool.{Bool, true}
use native.Mathlib.Omega.{arith}
use native.Mathlib.Numerals.{add-one}
use native.Mathlib.Nat.{pow-le-pow_right}
use lib.ListN.{length, get_or, set, take}
use lib.Seq.{get_or-set_same, get_or-set_other, get_or-take, take-set-le, drop-set-lt}
use borrow.Author.Count.{below_more}
use Rattle.rows.proofs.ArcLaws.{item_at}
use Rattle.rows.proofs.HeldLaws.{is_held, high}
use Rattle.rows.specs.Held.{missing, held}
use Rattle.rows.specs.Net.{Net, graph, closed}
use Rattle.walks.specs.Goals.{entry_of, exit_of, own_of, lastly}
use Rattle.walks.specs.Graph.{least}
use Rattle.walks.specs.Lengths.{Least, none, some, plus, lesser}
use Rattle.goal_table.proofs.RestLaws.{Rest, Next, rest_done, members_further}
use Rattle.goal_table.proofs.SetLaws.{has_below, but_less, but_none, any_skips, last_in}
use Rattle.goal_table.specs.Sets.{has, chosen, given, just_past, any_in}
use Rattle.goal_table.specs.Table.{Filled, FilledTo, SetAsked, TableFits, SetFits, TableOnly}

-- an entry of a front that is as it was
pub same_front : (n : ℕ) (u v : List ℕ) → take n v ≡ take n u → (k : ℕ) → k < n → get_or v k 0 ≡ get_or u k 0
same_front n u v e k h = sym (get_or-take n v k 0 h) ∙ ap (λ (l : List ℕ). get_or l k 0) e ∙ get_or-take n u k 0 h

-- a set of at most 8 goals is a number below 256
pub set_small : (k S : ℕ) → k ≤ 8 → S < 2 ^ k → S < 256
set_small k S h s = let p : 2 ^ k ≤ 2 ^ 8 = pow-le-pow_right (omega arith) h in omega arith

module _ {N : Net} {cap a : ℕ} {goals : List ℕ} {S v : ℕ} {work : List ℕ} (K : SetAsked N cap a goals S v work) where
  -- the set's next goal looked at
  pub reach_more : {k i : ℕ} (r t : ℕ) → Next S k i → cap < missing → held cap (some r) ≡ held cap (any_in (graph N) (closed N) a v goals S k)
      → ((cap : ℕ) (p q s : Least) → cap < missing → get_or work (1024 + S * 8 + i) 0 ≡ held cap p → get_or work (64 + i * 64 + v) 0 ≡ held cap q
      → held cap (some r) ≡ held cap s → held cap (some t) ≡ held cap (lesser s (plus p q)))
      → held cap (some t) ≡ held cap (any_in (graph N) (closed N) a v goals S (i + 1))
  unfolding any_in given lastly just_past
  reach_more {k} {i} r t n c e f =
      let h : i < length goals = has_below S i (length goals) K.few n.in_set in
      let p = just_past (graph N) (closed N) a goals (S - 2 ^ i) i in
      let q = least (graph N) (closed N) [] (exit_of (graph N) (get_or goals i 0)) v in
      let s = any_in (graph N) (closed N) a v goals S i in
      rw add-one
      (f cap p q s c (K.set i h n.in_set) (K.rowed.rows i h v K.node) (e ∙ ap (held cap) (sym (any_skips (graph N) (closed N) a v goals S k i n.from n.skipped)))
      ∙ ap (λ (b : Bool). held cap (lesser s (given b (plus p q)))) (sym n.in_set))

  pub reach_done : {k rest : ℕ} (r t : ℕ) → Rest S k rest → rest ≡ 0 → 0 < S → held cap (some r) ≡ held cap (any_in (graph N) (closed N) a v goals S k) → t ≡ held cap (some r)
      → t ≡ held cap (least (graph N) (closed N) (chosen goals S) a v)
  reach_done {k} r t R z p e f =
      let q = last_in (graph N) (closed N) a v goals S K.fit.distinct (λ i h. item_at N (get_or goals i 0) (K.fit.below i h)) K.few p in
      let w = any_skips (graph N) (closed N) a v goals S k (length goals) (R.within (length goals) K.few) (λ i h l. rest_done R z i h) in
      rw q (f ∙ e ∙ ap (held cap) (sym w))

-- the number for what is missing stands for none
pub any_begun : (N : Net) (cap a v S : ℕ) (goals : List ℕ) → cap < missing → held cap (some missing) ≡ held cap (any_in (graph N) (closed N) a v goals S 0)
unfolding any_in
any_begun N cap a v S goals c = sym (is_held {r = some missing} (high c)) ∙ is_held {r = none} (high tt)

-- what reach is asked for a set that is filled
pub asked_of : {N : Net} {cap a : ℕ} {goals : List ℕ} {n : ℕ} {work : List ℕ} → Filled N cap a goals n work → (S v : ℕ) → S < n → S < 2 ^ length goals → v < N.nodes
    → SetAsked N cap a goals S v work
asked_of F S v h s w = record { fit = F.fit; rowed = F.rowed; set = F.sets S h; few = s; node = w }

pub shifted : (i : ℕ) → i ≤ 8 → 1 * 2 ^ i % 4294967296 ≡ 2 ^ i
shifted i h = let p : 2 ^ i ≤ 2 ^ 8 = pow-le-pow_right (omega arith) h in omega arith

-- the way to the entry of goal i of the set S, the set's other goals met on it
module _ {N : Net} {cap a : ℕ} {goals : List ℕ} {S : ℕ} {work : List ℕ} (F : Filled N cap a goals S work) (i : ℕ) (few : S < 2 ^ length goals) (e : has S i ≡ true) where
  below : i < length goals
  below = has_below S i (length goals) few e

  abbrev pub to_entry : Least
  to_entry = least (graph N) (closed N) (chosen goals (S - 2 ^ i)) a (get_or work (576 + i) 0)

  -- goal i alone: the source's row has it
  pub alone_begun : length (chosen goals S) ≡ 1 → get_or work (get_or work (576 + i) 0) 0 ≡ held cap to_entry
  alone_begun o = rw (but_none goals S i few e o) (F.rowed.first (get_or work (576 + i) 0) (F.inside i below))

  -- other goals in the set: reach, asked for the set without goal i, has it
  pub others_reached : (rest x : ℕ) → rest ≡ S - 2 ^ i
      → ((N : Net) (a : ℕ) (goals : List ℕ) → SetAsked N cap a goals rest (get_or work (576 + i) 0) work
      → x ≡ held cap (least (graph N) (closed N) (chosen goals rest) a (get_or work (576 + i) 0))) → x ≡ held cap to_entry
  others_reached rest x q reach =
      let l = but_less S i e in
      subst
      (λ (rest : ℕ). SetAsked N cap a goals rest (get_or work (576 + i) 0) work → x ≡ held cap (least (graph N) (closed N) (chosen goals rest) a (get_or work (576 + i) 0)))
      q (reach N a goals) (asked_of F (S - 2 ^ i) (get_or work (576 + i) 0) l (omega arith) (F.inside i below))

  -- and just past the goal itself
  pub past_is : (way r : ℕ) → way ≡ held cap to_entry → ((p q : Least) → way ≡ held cap p → get_or work (584 + i) 0 ≡ held cap q → r ≡ held cap (plus p q))
      → r ≡ held cap (just_past (graph N) (closed N) a goals (S - 2 ^ i) i)
  unfolding just_past
  past_is way r b sum =
      sum (least (graph N) (closed N) (chosen goals (S - 2 ^ i)) a (entry_of (graph N) (get_or goals i 0))) (own_of (graph N) (closed N) (get_or goals i 0))
      (rw (F.noted.entries i below) at b) (F.noted.owns i below)

-- the entry of the set and goal i is stored, and all other entries are as they were
pub put_one : {N : Net} {cap a : ℕ} {goals : List ℕ} {S i : ℕ} {work : List ℕ} (x : ℕ) → S < 256 → i < length goals → 3072 ≤ length work
    → x ≡ held cap (just_past (graph N) (closed N) a goals (S - 2 ^ i) i) → FilledTo N cap a goals S i work → FilledTo N cap a goals S (i + 1) (set work (1024 + S * 8 + i) x)
put_one {N} {cap} {a} {goals} {S} {i} {work} x s h l e F = record {
  filled = record {
    small = F.filled.small;
    fit = F.filled.fit;
    rowed = record {
      first = λ v hv. other v (λ q. omega (arith, F.filled.small)) ∙ F.filled.rowed.first v hv;
      rows = λ j hj v hv. other (64 + j * 64 + v) (λ q. omega (arith, F.filled.fit.eight, F.filled.small)) ∙ F.filled.rowed.rows j hj v hv;
    };
    noted = record {
      entries = λ j hj. other (576 + j) (λ q. omega (arith, F.filled.fit.eight)) ∙ F.filled.noted.entries j hj;
      owns = λ j hj. other (584 + j) (λ q. omega (arith, F.filled.fit.eight)) ∙ F.filled.noted.owns j hj;
    };
    inside = λ j hj. rw (other (576 + j) (λ q. omega (arith, F.filled.fit.eight))) (F.filled.inside j hj);
    sets = λ T hT j hj m. other (1024 + T * 8 + j) (λ q. omega (arith, F.filled.fit.eight)) ∙ F.filled.sets T hT j hj m;
  };
  set = below_more _ i (λ j hj m. other (1024 + S * 8 + j) (λ q. omega arith) ∙ F.set j hj m)
      (λ m. get_or-set_same work at x 0 (omega (arith, F.filled.fit.eight)) ∙ e);
}
  where
    at : ℕ
    at = 1024 + S * 8 + i

    other : (k : ℕ) → k ≢ at → get_or (set work at x) k 0 ≡ get_or work k 0
    other k q = get_or-set_other work at k x 0 q

pub set_begun : {N : Net} {cap a : ℕ} {goals : List ℕ} {S : ℕ} {work : List ℕ} → Filled N cap a goals S work → FilledTo N cap a goals S 0 work
set_begun F = record { filled = F; set = λ j hj. absurd (omega arith) }

pub set_next : {N : Net} {cap a : ℕ} {goals : List ℕ} {S k i : ℕ} {work : List ℕ} → Next S k i → FilledTo N cap a goals S k work → FilledTo N cap a goals S i work
set_next {S = S} {k} {i} n F = record { filled = F.filled; set = members_further S k i n.skipped F.set }

pub set_done : {N : Net} {cap a : ℕ} {goals : List ℕ} {S k rest : ℕ} {work : List ℕ} → Rest S k rest → rest ≡ 0 → FilledTo N cap a goals S k work
    → Filled N cap a goals (S + 1) work
set_done {goals = goals} {S = S} {k = k} R z F = record {
  small = F.filled.small;
  fit = F.filled.fit;
  rowed = F.filled.rowed;
  noted = F.filled.noted;
  inside = F.filled.inside;
  sets = below_more _ S F.filled.sets (members_further S k (length goals) (λ j h l. rest_done R z j h) F.set);
}

-- only the table is touched
pub only_same : (work : List ℕ) → TableOnly work work
only_same work = record { front = refl; behind = refl }

pub only_put : (work : List ℕ) (S i x : ℕ) → S < 256 → i < 8 → TableOnly work (set work (1024 + S * 8 + i) x)
only_put work S i x s h = record { front = take-set-le 1024 work (1024 + S * 8 + i) x (omega arith); behind = drop-set-lt 3072 work (1024 + S * 8 + i) x (omega arith) }

pub only_then : {u v w : List ℕ} → TableOnly u v → TableOnly v w → TableOnly u w
only_then p q = record { front = q.front ∙ p.front; behind = q.behind ∙ p.behind }

-- the set has its place where the whole table has
pub set_fits : {k S : ℕ} {work : List ℕ} → TableFits k work → S < 2 ^ k → SetFits S work
set_fits {k} {S} T s = record { long = T.long; small = set_small k S T.eight s; entries = λ i e. T.entries i (has_below S i k s e) }

-- what fits the work still fits it
pub fits_kept : {S : ℕ} {u v : List ℕ} → SetFits S u → TableOnly u v → length v ≡ length u → SetFits S v
fits_kept {S} {u} {v} T o l = record {
  long = rw l T.long;
  small = T.small;
  entries = λ i e. rw (same_front 1024 u v o.front (576 + i) (omega (arith, has_below S i 8 T.small e))) (T.entries i e);
}
