-- What the rows say of an item, and a goal's least length of all goals. Assumes nothing.
use Prim.Native.Nat.{ℕ, ◌+◌, ◌<◌}
use mathlib.Core.Path.{◌≡◌, ap, ◌∙◌}
use mathlib.Core.List.{List, [], ◌∷◌}
use native.Mathlib.Omega.{arith}
use lib.ListN.{get_or}
use lib.Dec.{leb}
use Rattle.sheet.specs.declared.Header.{Header}
use Rattle.goals.proofs.ToldLaws.{told_left, told_right}
use Rattle.goals.specs.Told.{as_least}
use Rattle.rows.proofs.ArcLaws.{item_at}
use Rattle.rows.proofs.HeldLaws.{held_within}
use Rattle.rows.specs.Held.{held, at_most}
use Rattle.rows.specs.Net.{net_of}
use Rattle.sheet.specs.Sheet.{is_forbidden, sheet_of}
use Rattle.sheet_required.specs.Whole.{Whole}
use Rattle.pass_rules.specs.Verdict.{fits_sheet}
use Rattle.walks.proofs.Through.{through_one}
use Rattle.walks.specs.declared.arc.Arc.{Arc}
use Rattle.walks.specs.Flat.{graph_of}
use Rattle.walks.specs.Goals.{entry_of, exit_of, own_of}
use Rattle.walks.specs.Graph.{closed_in, least, fits}
use Rattle.walks.specs.Lengths.{Least, none, plus}
use Rattle.std.specs.declared.option.Option.{Option}
use Rattle.item_fits.specs.Rows.{Rows}

module _ {h : Header} {arcs : List Arc} {marks : List ℕ} (W : Whole h arcs marks) where
  abbrev there : ℕ → Least
  there v = least (graph_of h.nodes arcs) (closed_in marks) [] h.source v

  abbrev back : ℕ → Least
  back v = least (graph_of h.nodes arcs) (closed_in marks) [] v h.target

  abbrev own : ℕ → Least
  own i = own_of (graph_of h.nodes arcs) (closed_in marks) i

  abbrev through : ℕ → Least
  through i = least (graph_of h.nodes arcs) (closed_in marks) (i ∷ []) h.source h.target

  module _ (i : ℕ) (b : i < h.nodes + h.arcs) where
    -- to the item, over it, and on
    parted : through i ≡ plus (plus (there (entry_of (graph_of h.nodes arcs) i)) (own i)) (back (exit_of (graph_of h.nodes arcs) i))
    parted = through_one (graph_of h.nodes arcs) (closed_in marks) i h.source h.target (item_at (net_of h.nodes arcs marks) i (omega (arith, W.sized.0)))

    -- what the code tells of the sum
    pub told_through : (o : Option ℕ)
        → as_least o ≡ at_most h.limit (plus (plus (there (entry_of (graph_of h.nodes arcs) i)) (own i)) (back (exit_of (graph_of h.nodes arcs) i)))
        → as_least o ≡ at_most h.limit (through i)
    told_through o e = rw parted e

    -- the item itself is too long
    pub untold_own : none ≡ at_most h.limit (own i) → none ≡ at_most h.limit (through i)
    untold_own e = rw parted (told_left h.limit _ _ (told_right h.limit (there (entry_of (graph_of h.nodes arcs) i)) (own i) e))

    -- the way to it and over it is too long
    pub untold_past : none ≡ at_most h.limit (plus (there (entry_of (graph_of h.nodes arcs) i)) (own i)) → none ≡ at_most h.limit (through i)
    untold_past e = rw parted (told_left h.limit _ _ e)

  -- the way to the target that meets the goals, held as a number
  pub target_fits : (goals : List ℕ) (x : ℕ) → x ≡ held h.limit (least (graph_of h.nodes arcs) (closed_in marks) goals h.source h.target)
      → leb x h.limit ≡ fits_sheet (sheet_of h arcs marks) goals
  unfolding fits_sheet fits is_forbidden
  target_fits goals x e = rw e (held_within h.limit _ (omega (arith, W.limit)))

  -- the entries that are read
  module _ {to from : List ℕ} (R : Rows h arcs marks to from) where
    pub there_at : (i v : ℕ) → (v ≡ entry_of (graph_of h.nodes arcs) i) × (v < h.nodes) → get_or to v 0 ≡ held h.limit (there (entry_of (graph_of h.nodes arcs) i))
    there_at i v q = R.from_source v q.1 ∙ ap (λ (u : ℕ). held h.limit (there u)) q.0

    pub back_at : (i v : ℕ) → (v ≡ exit_of (graph_of h.nodes arcs) i) × (v < h.nodes) → get_or from v 0 ≡ held h.limit (back (exit_of (graph_of h.nodes arcs) i))
    back_at i v q = R.to_target v q.1 ∙ ap (λ (u : ℕ). held h.limit (back u)) q.0
