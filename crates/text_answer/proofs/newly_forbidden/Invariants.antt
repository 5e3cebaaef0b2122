-- Before each item those before it are listed.
use Rattle.std.proofs.Common.{◌≡◌, ◌≤◌, length}
use Rattle.text_answer.proofs.ListLaws.{newly_among}
use Rattle.text_answer.proofs.newly_forbidden.Given as goal

abbrev pub invariant-loop-item : goal.invariant-loop-item
invariant-loop-item g l = (length l.list.items ≤ l.item) × (l.list.items ≡ newly_among l.marks l.slip l.item)
