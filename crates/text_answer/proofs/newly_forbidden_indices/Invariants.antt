-- Before each item those before it are listed.
use Rattle.std.proofs.Common.{◌≡◌, ◌≤◌, length}
use Rattle.text_answer.proofs.ListLaws.{newly_among}
use Rattle.text_answer.proofs.newly_forbidden_indices.Given as goal

abbrev pub invariant-loop-i : goal.invariant-loop-i
invariant-loop-i g l = (length l.list.items ≤ l.i) × (l.list.items ≡ newly_among l.marks l.slip l.i)
