-- `store_slot::read_items` meets its contract: the goals stand in front and the reasons behind them. Assumes nothing.
use mathlib.Core.Path.{sym}
use Rattle.lists.proofs.FrontLaws.{put_on_lem}
use Rattle.slip_reader.specs.Form.{numbers_in}
use Rattle.store_slot.proofs.SlotLaws.{counted_room}
use Rattle.store_slot.proofs.read_items.Goals as goal

pub returns : goal.returns
returns c =
    let f = c.args.form.now in
    (put_on_lem {a = numbers_in f.goals} {b = numbers_in f.reasons} {d = c.args.items.now} (counted_room f.goals.counted f.reasons.counted c.requires) (sym f.goals.counted, c.values_at.ensures) (sym f.reasons.counted, c.values_at-2.ensures)).1
