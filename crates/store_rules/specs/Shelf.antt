-- A shelf of reasons (document 02, requests 2.6 and 2.7): slips of refused rounds that are kept for later sheets of one map with its service minutes, start and
-- finish. In the code a shelf is a nogood store, a slip on it a nogood, and to cover is to subsume.
use Rattle.std.specs.Prelude.{ℕ, Bool, true, false, ◌&&◌, ◌||◌, List, [], ◌∷◌, eqb, leb}
use Rattle.lists.specs.Lists.{pick, member, every, subset, alike}
use Rattle.walks.specs.Flat.{flat}
use Rattle.walks.specs.Graph.{Graph}
use Rattle.sheet.specs.Page.{Page, sheet_on}
use Rattle.sheet.specs.Sheet.{Sheet, is_mandatory, is_forbidden, required}
use Rattle.sheet.specs.Slip.{Slip}

-- A shelved slip with its sheet's limit.
pub record Nogood : Type 0 where
  pub first : ℕ
  pub limit : ℕ
  pub goals : List ℕ
  pub reasons : List ℕ

-- What a shelf is for: one map, source and target. The graph is what a sheet means, so that an arc's weight is its minutes and the service minutes of its head.
pub record Base : Type 0 where
  pub graph : Graph
  pub services : List ℕ
  pub source : ℕ
  pub target : ℕ

-- A shelf: its slips, earliest put first. The base counts only where there are slips.
pub record Shelf : Type 0 where
  pub base : Base
  pub slips : List Nogood

unfoldable pub base_of : Page → Base
base_of P = record { graph = (sheet_on P).graph; services = P.services; source = (sheet_on P).source; target = (sheet_on P).target }

-- the same nodes, the same arcs one by one, tail, head and weight, the same service minutes, and the same source and target
unfoldable pub same_base : Base → Base → Bool
same_base a b =
    eqb a.graph.nodes b.graph.nodes
    && (alike (flat a.graph.arcs) (flat b.graph.arcs)
    && (alike a.services b.services && (eqb a.source b.source && eqb a.target b.target)))

unfoldable pub is_empty : List Nogood → Bool
is_empty [] = true
is_empty (k ∷ ks) = false

-- a shelf without slips is for every sheet
unfoldable pub fits_base : Shelf → Base → Bool
fits_base K base = is_empty K.slips || same_base K.base base

-- a covers b: its goals and reasons are subsets of the other's, and its limit is at least as great
unfoldable pub subsumes : Nogood → Nogood → Bool
subsumes a b = subset a.goals b.goals && (subset a.reasons b.reasons && leb b.limit a.limit)

-- k applies to a sheet: its reasons are shut there, its goals must or counted, and the sheet's limit is no greater
unfoldable pub applies : Nogood → Sheet → Bool
applies k S =
    every (is_forbidden S) k.reasons && (every (λ g. is_mandatory S g || member g (required S)) k.goals && leb S.limit k.limit)

-- the slip that a nogood stands for, and the nogood of a slip and a limit
unfoldable pub slip_of : Nogood → Slip
slip_of k = record { first = k.first; goals = k.goals; reasons = k.reasons }

unfoldable pub nogood_of : ℕ → Slip → Nogood
nogood_of limit s = record { first = s.first; limit = limit; goals = s.goals; reasons = s.reasons }

-- the earliest slip with a property
pub data Found : Type 0 where
  missing : Found
  found : Nogood → Found

unfoldable pub earliest : (Nogood → Bool) → List Nogood → Found
earliest f [] = missing
earliest f (k ∷ ks) = pick (f k) (found k) (earliest f ks)
