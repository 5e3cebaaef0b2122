-- `goal_table::better` meets its contract: a sum that is above the cap stands for one that is, so the lesser number stands for the lesser length. Assumes nothing.
use Rattle.goal_table.proofs.LooseLaws.{better_sum, better_kept}
use Rattle.goal_table.proofs.better.Goals as goal

pub returns-then-through-best : goal.returns-then-through-best
returns-then-through-best c = rw (← c.entry.ensures) (λ cap p q r k e f g. better_sum cap p q r _ _ c.args.best k e f g c.if-through-best.true)

pub returns : goal.returns
returns c = rw (← c.entry.ensures) (λ cap p q r k e f g. better_kept cap p q r _ _ c.args.best k e f g c.if-through-best.false)
