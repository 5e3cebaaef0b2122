-- A sheet as it is written, and what it means (document 02, request 2.7). What a sheet says has minutes and service minutes apart; what it means has weights.
use Rattle.std.specs.Prelude.{ℕ, ◌+◌, Bool, List, [], ◌∷◌, map, get_or, eqb}
use Rattle.lists.specs.Lists.{every}
use Rattle.walks.specs.declared.arc.Arc.{Arc}
use Rattle.sheet.specs.Sheet.{Sheet}

-- the service minutes of a node
unfoldable pub service_of : List ℕ → ℕ → ℕ
service_of services p = get_or services p 0

-- what an arc adds to a walk: its minutes and the service minutes of the node that it comes to
unfoldable pub served_arc : List ℕ → Arc → Arc
served_arc services x = record { tail = x.tail; head = x.head; weight = x.weight + service_of services x.head }

unfoldable pub served : List ℕ → List Arc → List Arc
served services xs = map (served_arc services) xs

-- A sheet as it is written: its numbers, an arc's minutes as the arc's weight, and the service minutes of each node.
pub record Page : Type 0 where
  pub says : Sheet
  pub services : List ℕ

-- what it means: the same sheet, each arc with its head's service minutes
unfoldable pub sheet_on : Page → Sheet
sheet_on P =
    record {
      graph = record { nodes = P.says.graph.nodes; arcs = served P.services P.says.graph.arcs };
      source = P.says.source;
      target = P.says.target;
      limit = P.says.limit;
      marks = P.says.marks;
    }

-- no service takes a minute
unfoldable pub no_service : List ℕ → Bool
no_service services = every (λ x. eqb x 0) services

-- the service minutes of the listed nodes together, each as often as it stands there
unfoldable pub service_over : List ℕ → List ℕ → ℕ
service_over services [] = 0
service_over services (p ∷ ps) = service_of services p + service_over services ps
