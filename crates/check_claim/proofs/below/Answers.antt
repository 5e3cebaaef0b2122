-- `check_claim::below` meets its contract: the closure tells of one item what `every` asks of each number. Assumes nothing.
use lib.Dec.{ltb}
use Rattle.std.proofs.Common.{rules, tests}
use Rattle.std.proofs.lemmas.Iterator.{YieldsList-from_slice}
use Rattle.std.proofs.lemmas.Iterator.Search.{all_from_yields_List}
use Rattle.check_claim.proofs.NumberLaws.{numbers_every}
use Rattle.check_claim.proofs.below.Goals as goal

pub returns : goal.returns
returns g c =
    numbers_every g.I.Item.number _ (g.met.I.Item.one_each c.args.items.now) (λ n. ltb n c.args.bound)
    (all_from_yields_List (λ x. ltb (g.I.Item.number x) c.args.bound) _ _ c.all.result c.all.ensures.ran
    (YieldsList-from_slice c.args.items.now cc) (λ x b q k. search (rules, tests)))
