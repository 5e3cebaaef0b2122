-- `Store::push` meets its contract: the newcomer stands behind the slips that count. Assumes nothing.
use mathlib.Core.Path.{◌≡◌, refl}
use native.Mathlib.Omega.{arith}
use lib.ListN.{length}
use borrow.Author.Rules.{rules}
use Rattle.store.specs.Held.{base_in, held_in, slips_in}
use Rattle.store.proofs.EarliestLaws.{length_mapped}
use Rattle.store.proofs.BaseLaws.{added_slips}
use Rattle.store.proofs.Store.push.Goals as goal

pub returns : goal.returns
unfolding base_in slips_in held_in
returns c = let l : length c.args.self.now.slots ≡ 64 = search (rules, length_mapped) in record { base = refl; slips = added_slips c.args.self.now.slots c.args.self.now.count c.args.slot.now (omega (arith, l, c.requires)) }
