-- `check_claim::all_required` meets its contract: the required items stand in front of the array. Assumes nothing.
use mathlib.Core.Path.{ap, ◌∙◌}
use native.Mathlib.Omega.{arith}
use Rattle.std.proofs.Common.{rules, tests}
use Rattle.std.proofs.lemmas.Iterator.{YieldsList-from_slice}
use Rattle.std.proofs.lemmas.Iterator.Search.{all_from_yields_List}
use Rattle.lists.specs.Lists.{member, every}
use Rattle.sheet_required.proofs.WholeLaws.{room_front}
use Rattle.check_claim.proofs.NumberLaws.{numbers_every}
use Rattle.check_claim.proofs.all_required.Goals as goal

pub returns : goal.returns
returns g c =
    numbers_every g.I.Item.number _ (g.met.I.Item.one_each c.args.goals.now) (λ n. member n _)
    (all_from_yields_List (λ x. member (g.I.Item.number x) _) _ _ c.all.result c.all.ensures.ran
    (YieldsList-from_slice c.args.goals.now cc) (λ x b q k. search (rules, tests)))
    ∙ ap (λ l. every (λ n. member n l) (g.I.Item.numbers c.args.goals.now)) (room_front c.required_items-count.ensures (omega (arith, c.args.sheet.now.whole.eight)))
