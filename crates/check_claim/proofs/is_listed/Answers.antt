-- `check_claim::is_listed` meets its contract: the closure tells whether one entry is the number. Assumes nothing.
use mathlib.Core.Path.{◌∙◌}
use lib.Dec.{eqb}
use Rattle.std.proofs.Common.{rules, tests}
use Rattle.std.proofs.lemmas.Iterator.{YieldsList-from_slice}
use Rattle.std.proofs.lemmas.Iterator.Search.{any_from_yields_List}
use Rattle.lists.proofs.StdLaws.{member_any}
use Rattle.check_claim.proofs.is_listed.Goals as goal

pub returns : goal.returns
returns c =
    any_from_yields_List (λ y. eqb y c.args.number) _ _ c.any.result c.any.ensures.ran (YieldsList-from_slice c.args.list.now cc) (λ x b q k. search (rules, tests))
    ∙ member_any c.args.number c.args.list.now
