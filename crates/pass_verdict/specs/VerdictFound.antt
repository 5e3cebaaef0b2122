-- What the code finds of a sheet's verdict.
use Rattle.std.specs.Prelude.{ℕ, ◌≤◌, ◌≡◌, List, [], ◌∷◌, length}
use Rattle.walks.specs.declared.arc.Arc.{Arc}
use Rattle.rows.specs.Net.{net_of}
use Rattle.goal_table.specs.Table.{Rowed}
use Rattle.sheet.specs.declared.Header.{Header}
use Rattle.sheet.specs.Sheet.{sheet_of}
use Rattle.pass_rules.specs.Verdict.{verdict}
use Rattle.pass_verdict.specs.declared.Verdict.{Verdict}
use Rattle.pass_verdict.specs.declared.Verdict.TheVariants.{Stands, NoWay, Unmet, Apart}

-- its number
abbrev pub number_of_verdict : Verdict → ℕ
number_of_verdict Stands = 0
number_of_verdict NoWay = 1
number_of_verdict (Unmet i) = 2
number_of_verdict (Apart goals) = 3

-- its goals: what no walk meets
abbrev pub goals_of : Verdict → List ℕ
goals_of Stands = []
goals_of NoWay = []
goals_of (Unmet i) = i ∷ []
goals_of (Apart goals) = goals.now

-- the verdict's number and its goals; for verdict 3 the rows for the goals lie in the scratch
pub record VerdictFound (h : Header) (arcs : List Arc) (marks : List ℕ) (v : Verdict) (scratch : List ℕ) : Type 0 where
  pub number : number_of_verdict v ≡ (verdict (sheet_of h arcs marks)).number
  pub goals : goals_of v ≡ (verdict (sheet_of h arcs marks)).goals
  pub few : length (goals_of v) ≤ 8
  pub rowed : number_of_verdict v ≡ 3 → Rowed (net_of h.nodes arcs marks) h.limit h.source (goals_of v) scratch
