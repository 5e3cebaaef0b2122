-- What a sheet asks of the length layer.
use Rattle.std.specs.Prelude.{◌≡◌}
use Rattle.sheet.specs.declared.Header.{Header}
use Rattle.item_fits.specs.declared.Asked.{Asked}

-- a walk from the source to the target within the limit
pub record QueryOf (h : Header) (query : Asked) : Type 0 where
  pub nodes : query.nodes ≡ h.nodes
  pub from : query.from ≡ h.source
  pub to : query.to ≡ h.target
  pub cap : query.cap ≡ h.limit
