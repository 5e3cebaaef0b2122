-- What a list of reasons is asked for.
use Rattle.std.specs.Prelude.{ℕ, ◌≡◌, false, List}
use Rattle.walks.specs.declared.arc.Arc.{Arc}
use Rattle.rows.specs.Net.{net_of}
use Rattle.goal_table.specs.Table.{GoalsFit}
use Rattle.pass_rules.specs.Verdict.{fits_sheet}
use Rattle.sheet.specs.declared.Header.{Header}
use Rattle.sheet.specs.Sheet.{sheet_of}
use Rattle.sheet_required.specs.Whole.{Whole}

-- goals on a taken sheet that no walk within the limit meets
pub record Blamed (h : Header) (arcs : List Arc) (marks goals : List ℕ) : Type 0 where
  pub whole : Whole h arcs marks
  pub fit : GoalsFit (net_of h.nodes arcs marks) goals
  pub unmet : fits_sheet (sheet_of h arcs marks) goals ≡ false
