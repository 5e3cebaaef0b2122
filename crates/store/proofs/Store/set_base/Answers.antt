-- `Store::set_base` meets its contract: the base that is written is the one that is shown. Assumes nothing.
use mathlib.Core.Path.{refl}
use Rattle.store.proofs.BaseLaws.{based_as}
use Rattle.store.proofs.Store.set_base.Goals as goal

pub returns : goal.returns
returns c =
    let t = c.args.taken.now in
    based_as c.args.self.now _ t.sheet.header t.sheet.arcs.now t.services.now t.sheet.whole.sized.0 t.one_each refl refl refl refl
    c.put_legs.ensures c.write_front.ensures refl refl
