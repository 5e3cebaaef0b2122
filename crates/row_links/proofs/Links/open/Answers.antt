-- `row_links::Links::open` meets its contract: an arc is put behind the others, and else the open arcs are packed anew. Assumes nothing.
use mathlib.Core.Logic.{⊎_elim}
use native.Mathlib.Omega.{arith}
use Rattle.row_links.specs.Links.{anew}
use Rattle.row_links.proofs.Links.open.Goals as goal

pub returns-then-item-net : goal.returns-then-item-net
returns-then-item-net c =
    rw (← c.net.view_is)
    (anew (λ n. ⊎_elim (λ h. absurd (omega (arith, h, n))) (λ h. h.1) c.then-item-net.either) (rw (← c.net.view_is) at c.pack.ensures))
