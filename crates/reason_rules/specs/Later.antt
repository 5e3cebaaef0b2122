-- The words of demand 3 (document 01, 'Reasons'; document 02, request 2.7).
use Rattle.std.specs.Prelude.{ℕ, ◌≤◌, ◌<◌, ◌≡◌, ◌⊎◌, true, List, [], length}
use Rattle.lists.specs.Lists.{member}
use Rattle.varint.specs.Varint.{got}
use Rattle.walks.specs.Graph.{Graph, tail_of, head_of, weight_of}
use Rattle.sheet.specs.Sheet.{Sheet, is_mandatory, is_forbidden, required}
use Rattle.sheet.specs.Slip.{Slip, read_slip}
use Rattle.sheet.specs.Page.{Page}
use Rattle.sheet.specs.Reader.{page}
use Rattle.sheet.specs.Answer.{finished}
use Rattle.reason_rules.specs.Reason.{reason_on}

-- The slip that reason writes for an item has these goals and reasons.
pub record Explains (sheet : List ℕ) (i : ℕ) (s : Slip) : Type 0 where
  pub slip : List ℕ
  pub finishes : reason_on sheet i ≡ finished slip
  pub says : read_slip slip ≡ got s []

-- Two graphs are one map: n, m and, arc number by arc number, tails, heads and weights agree; of what two sheets say, the weights are the minutes.
pub record SameMap (G H : Graph) : Type 0 where
  pub nodes : H.nodes ≡ G.nodes
  pub count : length H.arcs ≡ length G.arcs
  pub tails : (l : ℕ) → l < length G.arcs → tail_of H l ≡ tail_of G l
  pub heads : (l : ℕ) → l < length G.arcs → head_of H l ≡ head_of G l
  pub weights : (l : ℕ) → l < length G.arcs → weight_of H l ≡ weight_of G l

-- A taken sheet with the same map, service minutes, source and target, every listed closure shut and no greater limit, whatever else it marks. Minutes and
-- service minutes are compared as they are written, so by pages.
pub record Later (P : Page) (list : List ℕ) (sheet : List ℕ) (Q : Page) : Type 0 where
  pub took : page sheet ≡ got Q []
  pub map : SameMap P.says.graph Q.says.graph
  pub services : Q.services ≡ P.services
  pub source : Q.says.source ≡ P.says.source
  pub target : Q.says.target ≡ P.says.target
  pub closed : (j : ℕ) → member j list ≡ true → is_forbidden Q.says j ≡ true
  pub limit : Q.says.limit ≤ P.says.limit

-- A goal is demanded on a sheet that has it as mandatory or as a required item.
abbrev pub Demanded : Sheet → ℕ → Type 0
Demanded S g = (is_mandatory S g ≡ true) ⊎ (member g (required S) ≡ true)
