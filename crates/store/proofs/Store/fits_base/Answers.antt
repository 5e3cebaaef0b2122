-- `Store::fits_base` meets its contract. Assumes nothing.
use mathlib.Core.Path.{◌≡◌, ◌∙◌}
use lib.ListN.{length}
use borrow.Author.Rules.{rules}
use borrow.Author.Tests.{eq-eqb}
use Rattle.store.specs.Held.{base_from}
use Rattle.store.proofs.EarliestLaws.{length_mapped}
use Rattle.store.proofs.BaseLaws.{no_slips, some_slips, base_told}
use Rattle.store.proofs.Store.fits_base.Goals as goal

pub returns-then-self-eq0 : goal.returns-then-self-eq0
returns-then-self-eq0 c =
    let t = c.args.taken.now in
    eq-eqb c.args.self.now.count 0 c.if-self-eq0.true ∙ no_slips c.args.self.now (base_from t.sheet.header t.sheet.arcs.now t.services.now) c.if-self-eq0.true

pub returns-else-self-eq0 : goal.returns-else-self-eq0
returns-else-self-eq0 c =
    let t = c.args.taken.now in
    let l : length c.args.self.now.slots ≡ 64 = search (rules, length_mapped) in
    some_slips c.args.self.now _ c.if-self-eq0.false l (base_told c.args.self.now t.sheet.header t.sheet.arcs.now t.services.now (search rules) c.same_base.ensures)
