use Rattle.std.proofs.Common.{rules, tests}
use Rattle.std.proofs.lemmas.List.Sorted.{answers_always}
use Rattle.std.specs.Ordering.{partial_lt}
use Rattle.lists.proofs.StdLaws.{next_answer}
use Rattle.lists.proofs.ascending.Goals as goal

pub returns : goal.returns
returns g c =
    next_answer (partial_lt g.T.PartialOrd.partial_cmp) _ _
    (c.is_sorted_by.ensures.cases (partial_lt g.T.PartialOrd.partial_cmp) (answers_always _ _ _ (λ f a r f' q. search (rules, tests))))
