-- `greedy_turn::Task::may_fit` meets its contract: an item that is no goal is not among them. Assumes nothing.
use mathlib.Core.Path.{sym, ◌∙◌}
use Rattle.lists.proofs.StdLaws.{member_any}
use Rattle.greedy_turn.proofs.Task.may_fit.Goals as goal

pub returns-clause-not_a_goal_if_false : goal.returns-clause-not_a_goal_if_false
returns-clause-not_a_goal_if_false c _ = sym (member_any _ _) ∙ sym c.has_goal.ensures ∙ c.if-has_goal.false
