-- Before each item those before it are there.
use Rattle.std.proofs.Common.{◌≡◌, take}
use Rattle.text_report.proofs.items.Given as goal

abbrev pub invariant-loop-item : goal.invariant-loop-item
invariant-loop-item g l = l.items.items ≡ take l.item-index l.list.items
