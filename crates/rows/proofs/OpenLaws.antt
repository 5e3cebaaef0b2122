-- Opening items keeps walks: a row that holds least lengths is a sound start for fewer closures. Assumes nothing.
use Prim.Native.Nat.{ℕ, ◌≤◌, ◌<◌}
use mathlib.Core.Path.{◌≡◌, refl, subst}
use mathlib.Core.Logic.{◌⊎◌, inl, inr}
use mathlib.Core.Bool.{Bool, false}
use mathlib.Core.List.{List, [], ◌∷◌}
use native.Mathlib.Omega.{arith}
use Rattle.walks.proofs.LeastLaw.{Attained, is_least, fit_walk}
use Rattle.walks.specs.declared.arc.Arc.{Arc}
use Rattle.walks.specs.Graph.{Graph, head_of, closed_in, fit, least}
use Rattle.walks.specs.Lengths.{Least, some}
use Rattle.walks.specs.Walk.{Walk}
use Rattle.rows.proofs.HeldLaws.{Held, low, high, holds}
use Rattle.rows.specs.Held.{missing}
use Rattle.rows.specs.Net.{Net, net_of, graph, closed}
use Rattle.rows.specs.Rows.{RowIs, Way, Sound}

-- what c leaves open, c' leaves open too
abbrev pub Opens : (ℕ → Bool) → (ℕ → Bool) → Type 0
Opens c c' = (i : ℕ) → c i ≡ false → c' i ≡ false

pub walk_opens : (G : Graph) (c c' : ℕ → Bool) → Opens c c' → (w : List ℕ) (a b : ℕ) → Walk G c a b w → Walk G c' a b w
walk_opens G c c' o [] a b W = record { node = W.node; open_node = o a W.open_node; there = W.there }
walk_opens G c c' o (l ∷ w) a b W = (
  record {
    node = W.0.node;
    open_node = o a W.0.open_node;
    arc = W.0.arc;
    open_arc = o _ W.0.open_arc;
    leaves = W.0.leaves;
  },
  walk_opens G c c' o w (head_of G l) b W.1,
)

pub sound_opens : (n : ℕ) (xs : List Arc) (ms ms' : List ℕ) (cap s : ℕ) (d : List ℕ) → Opens (closed_in ms) (closed_in ms')
    → Sound (net_of n xs ms) cap s d → Sound (net_of n xs ms') cap s d
sound_opens n xs ms ms' cap s d o S = record {
  sound = λ v h f. let W = S.sound v h f in (W.0, walk_opens (graph (net_of n xs ms)) (closed_in ms) (closed_in ms') o W.0 s v W.1, W.2);
  range = S.range;
}

pub row_sound : (N : Net) (cap s : ℕ) (d : List ℕ) → cap < missing → RowIs N cap s d → Sound N cap s d
row_sound N cap s d c R = record {
  sound = λ v h f. sound v (holds cap (least (graph N) (closed N) [] s v) (R v h)) f;
  range = λ v h. range (holds cap (least (graph N) (closed N) [] s v) (R v h));
}
  where
    walk : (v k : ℕ) (r : Least) → Attained (graph N) (fit (graph N) (closed N) [] s v) r → r ≡ some k → Way N s v k
    walk v k r a e =
        let t = subst (λ (x : Least). Attained (graph N) (fit (graph N) (closed N) [] s v) x) e a in
        (t.0, (fit_walk (graph N) (closed N) [] v s t.0 t.1).0, t.2)

    sound : (v : ℕ) {k : ℕ} → Held cap (least (graph N) (closed N) [] s v) k → k ≤ cap → Way N s v k
    sound v (low {k = k} h e) f = walk v k (least (graph N) (closed N) [] s v) (is_least (graph N) (closed N) [] s v).attained e
    sound v (high a) f = absurd (omega arith)

    range : {r : Least} {k : ℕ} → Held cap r k → (k ≤ cap) ⊎ (k ≡ missing)
    range (low h e) = inl h
    range (high a) = inr refl
