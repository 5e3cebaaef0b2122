-- What a header that was read keeps to.
use Rattle.std.specs.Prelude.{◌≤◌, ◌<◌}
use Rattle.sheet.specs.declared.Header.{Header}

pub record Fits (h : Header) : Type 0 where
  pub some : 2 ≤ h.nodes
  pub few : h.nodes ≤ 64
  pub arcs : h.arcs ≤ 512
  pub source : h.source < h.nodes
  pub target : h.target < h.nodes
  pub limit : h.limit ≤ 1000000
