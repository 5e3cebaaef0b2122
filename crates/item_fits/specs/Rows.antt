-- The two rows by which a sheet is judged.
use Rattle.std.specs.Prelude.{ℕ, List}
use Rattle.walks.specs.declared.arc.Arc.{Arc}
use Rattle.rows.specs.Net.{net_of}
use Rattle.rows.specs.Rows.{RowIs, RowTo}
use Rattle.sheet.specs.declared.Header.{Header}

-- the least lengths from the source, and those to the target, where they keep to the limit
pub record Rows (h : Header) (arcs : List Arc) (marks there back : List ℕ) : Type 0 where
  pub from_source : RowIs (net_of h.nodes arcs marks) h.limit h.source there
  pub to_target : RowTo (net_of h.nodes arcs marks) h.limit h.target back
