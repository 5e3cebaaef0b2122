-- What is read behind the content of a sheet.
use Rattle.std.specs.Prelude.{ℕ, zero, suc, ◌+◌, ◌<◌, ◌≡◌, Bool, true, false, List, length}
use Rattle.varint.specs.Varint.{got, refuse}
use Rattle.numbers.specs.Begun.{begun}
use Rattle.walks.specs.declared.arc.Arc.{Arc}
use Rattle.sheet.specs.Lent.{zeros}
use Rattle.sheet.specs.Page.{service_of}
use Rattle.sheet.specs.Reader.{read_service, read_services}
use Rattle.sheet.specs.Sheet.{Sheet}

-- how many numbers stand before the content
abbrev pub leading : Bool → ℕ
leading true = 1
leading false = 0

-- the service minutes of n nodes that are read before the first fault; where no number leads, n zeros
unfoldable pub services_in : ℕ → ℕ → List ℕ → List ℕ
services_in zero n bs = zeros n
services_in (suc k) n bs = begun read_service n bs

-- the service minutes behind a content of n nodes, read from bs on with `rest` after them, make its page
pub record ServicesTaken (k n : ℕ) (bs rest : List ℕ) : Type 0 where
  pub taken : (S : Sheet) → S.graph.nodes ≡ n → read_services k S bs ≡ got (record { says = S; services = services_in k n bs }) rest

-- or they are refused
pub record ServicesRefused (k n : ℕ) (bs : List ℕ) (e : ℕ) : Type 0 where
  pub refused : (S : Sheet) → S.graph.nodes ≡ n → read_services k S bs ≡ refuse e

-- an arc whose minutes and service minutes can be added
pub record Servable (services : List ℕ) (x : Arc) : Type 0 where
  pub head : x.head < length services
  pub sum : x.weight + service_of services x.head < 4294967296
