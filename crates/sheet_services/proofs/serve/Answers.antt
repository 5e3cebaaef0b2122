-- What the invariants do not show of `serve` by themselves.
use Rattle.std.proofs.Common.{rules}
use Rattle.sheet.specs.Page.{service_of, served_arc}
use Rattle.sheet_services.proofs.ServeLaws.{serving, serve_next}
use Rattle.sheet_services.proofs.serve.Goals as goal

pub loop-l-init : goal.loop-l-init
loop-l-init c = serving _ _ c.requires

pub overflow_add-arcs : goal.overflow_add-arcs
overflow_add-arcs c = let low = (serve_next c.loop-l.invariant c.loop-l-test.true).sum in search rules

pub loop-l-preserved : goal.loop-l-preserved
unfolding served_arc service_of
loop-l-preserved c = (serve_next c.loop-l.invariant c.loop-l-test.true).stored
