-- A length as a number, and the line that it gives. No length of a sheet comes near the cap, so none is cut off. Assumes nothing.
use Prim.Native.Nat.{ℕ, ◌≤◌}
use mathlib.Core.Path.{◌≡◌, refl, ap, ◌∙◌}
use mathlib.Core.List.{List, [], ◌∷◌, ◌++◌}
use native.Mathlib.Omega.{arith}
use borrow.Author.Tests.{le-leb}
use Rattle.lists.specs.Lists.{member}
use Rattle.walks.specs.declared.arc.Arc.{Arc}
use Rattle.walks.proofs.Bound.{least_bound}
use Rattle.walks.specs.Flat.{graph_of}
use Rattle.walks.specs.Graph.{closed_in, least}
use Rattle.walks.specs.Lengths.{Least, none, some}
use Rattle.rows.specs.Held.{at_most, kept}
use Rattle.sheet.proofs.SheetLaws.{good_weight}
use Rattle.sheet.specs.declared.Header.{Header}
use Rattle.sheet_required.specs.Whole.{Whole}
use Rattle.sheet.specs.Sheet.{sheet_of, is_forbidden}
use Rattle.reason_list.specs.Reasons.{but}
use Rattle.closed_marks.proofs.ClosingLaws.{clear_least}
use Rattle.closed_marks.specs.Closing.{Closing}
use Rattle.text_lines.specs.Lines.{number_line, difference_line, lines}
use Rattle.cost_rules.specs.Cost.{length_through, none_line, slack_line, length_line, length_opened, opened_line, cost_lines}
use Rattle.lengths.specs.Told.{as_least}
use Rattle.std.specs.declared.option.Option.{Option}
use Rattle.std.specs.declared.option.Option.TheVariants.{None, Some}

-- a length that the cap does not cut off
within_cap : (cap : ℕ) (r : Least) → ((a : ℕ) → r ≡ some a → a ≤ cap) → at_most cap r ≡ r
unfolding at_most kept
within_cap cap none f = refl
within_cap cap (some a) f = rw (le-leb a cap (f a refl)) refl

-- of a sheet that was taken, whatever is closed
pub length_is : {h : Header} {arcs : List Arc} {own : List ℕ} → Whole h arcs own → (marks : List ℕ) (i : ℕ)
    → at_most 4294967294 (least (graph_of h.nodes arcs) (closed_in marks) (i ∷ []) h.source h.target)
    ≡ least (graph_of h.nodes arcs) (closed_in marks) (i ∷ []) h.source h.target
length_is {h} {arcs} {own} W marks i =
    within_cap 4294967294 _
    (λ a q. omega (arith, (least_bound (graph_of h.nodes arcs) (closed_in marks) (i ∷ []) h.source h.target 66135 a (good_weight (sheet_of h arcs own) W.good) W.good.nodes (omega arith) q).1))

-- with one of the listed closures open
pub opened_is : (h : Header) (arcs : List Arc) (list marks : List ℕ) (i r : ℕ) (l : Least) → Closing (but (λ j. member j list) r) marks
    → l ≡ least (graph_of h.nodes arcs) (closed_in marks) (i ∷ []) h.source h.target
    → length_line l ≡ opened_line (sheet_of h arcs []) i list r
unfolding opened_line length_opened length_through
opened_is h arcs list marks i r l c e = ap length_line (e ∙ clear_least (graph_of h.nodes arcs) h.source h.target (i ∷ []) c)

-- what the sheet's marks close, and the lines of the listed closures, which do not speak of them
pub costs_are : (h : Header) (arcs : List Arc) (marks list : List ℕ) (i : ℕ) (l : Least) (bs : List ℕ)
    → l ≡ least (graph_of h.nodes arcs) (closed_in marks) (i ∷ []) h.source h.target
    → bs ≡ lines (opened_line (sheet_of h arcs []) i list) list
    → slack_line h.limit l ++ bs ≡ cost_lines (sheet_of h arcs marks) i list
unfolding cost_lines opened_line length_opened length_through is_forbidden
costs_are h arcs marks list i l bs e z = rw (e, z) refl

-- the lines as they are written
pub none_written : (o : Option ℕ) → o ≡ None → 110 ∷ 111 ∷ 110 ∷ 101 ∷ 10 ∷ [] ≡ length_line (as_least o)
unfolding length_line none_line
none_written o e = rw e refl

pub length_written : (o : Option ℕ) (a : ℕ) → o ≡ Some a → number_line a ≡ length_line (as_least o)
unfolding length_line
length_written o a e = rw e refl

pub no_slack_written : (k : ℕ) (o : Option ℕ) → o ≡ None → length_line (as_least None) ≡ slack_line k (as_least o)
unfolding length_line slack_line
no_slack_written k o e = rw e refl

pub slack_written : (k : ℕ) (o : Option ℕ) (a : ℕ) → o ≡ Some a → difference_line k a ≡ slack_line k (as_least o)
unfolding slack_line
slack_written k o a e = rw e refl
