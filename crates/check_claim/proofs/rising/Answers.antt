-- `check_claim::rising` meets its contract: the closure tells of two items whether the second has the greater number. Assumes nothing.
use lib.Dec.{ltb}
use Rattle.std.proofs.Common.{rules, tests}
use Rattle.std.proofs.lemmas.List.Sorted.{answers_always}
use Rattle.lists.proofs.StdLaws.{next_answer}
use Rattle.check_claim.proofs.NumberLaws.{numbers_ascend}
use Rattle.check_claim.proofs.rising.Goals as goal

pub returns : goal.returns
returns g c =
    numbers_ascend g.I.Item.number _ (g.met.I.Item.one_each c.args.items.now)
    (next_answer (λ x y. ltb (g.I.Item.number x) (g.I.Item.number y)) _ _
    (c.is_sorted_by.ensures.cases (λ x y. ltb (g.I.Item.number x) (g.I.Item.number y)) (answers_always _ _ _ (λ h a r h' q. search (rules, tests)))))
