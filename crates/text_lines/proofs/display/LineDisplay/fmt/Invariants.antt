-- What is written before each number: the word, and the numbers before it.
use Rattle.std.proofs.Common.{◌++◌, take}
use Rattle.std.specs.Fmt.{HasWritten, IsPlainFormatter}
use Rattle.text_lines.specs.Lines.{row}
use Rattle.text_lines.proofs.display.LineDisplay.fmt.Given as goal

abbrev pub invariant-loop-number : goal.invariant-loop-number
invariant-loop-number g l =
    IsPlainFormatter l.fn.f → HasWritten g.W.Write.write_str_gives l.fn.f (l.self.word.now ++ row (take l.number-index l.self.numbers.now)) l.f
