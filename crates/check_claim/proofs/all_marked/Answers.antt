-- `check_claim::all_marked` meets its contract: the closure tells of one item what `every` asks of each number. Assumes nothing.
use lib.ListN.{get_or}
use lib.Dec.{eqb}
use Rattle.std.proofs.Common.{rules, tests}
use Rattle.std.proofs.lemmas.Iterator.{YieldsList-from_slice}
use Rattle.std.proofs.lemmas.Iterator.Search.{all_from_yields_List}
use Rattle.check_claim.proofs.NumberLaws.{numbers_every}
use Rattle.check_claim.proofs.all_marked.Goals as goal

pub returns : goal.returns
returns g c =
    numbers_every g.I.Item.number _ (g.met.I.Item.one_each c.args.items.now) (λ n. eqb (get_or c.args.marks.now n 0) c.args.mark)
    (all_from_yields_List (λ x. eqb (get_or c.args.marks.now (g.I.Item.number x) 0) c.args.mark) _ _ c.all.result c.all.ensures.ran
    (YieldsList-from_slice c.args.items.now cc) (λ x b q k. search (rules, tests)))
