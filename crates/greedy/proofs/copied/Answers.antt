-- `greedy::copied` meets its contract: behind the marks the array has zeros. Assumes nothing.
use Rattle.greedy.proofs.CopyLaws.{zeros_behind}
use Rattle.greedy.proofs.copied.Goals as goal

pub returns : goal.returns
returns c = zeros_behind c.args.marks.now c.requires c.copy_from_slice.ensures.after
