-- The text of a sheet has room, and it is the text of what is told of the sheet.
use Rattle.std.proofs.Common.{arith, ap, length}
use Rattle.text_answer.proofs.SizeLaws.{within}
use Rattle.text_report.proofs.SizeLaws.{text_size}
use Rattle.text_report.proofs.report.Goals as goal

pub put-requires : goal.put-requires
put-requires c = omega (arith, c.requires, text_size c.args.sheet.now c.args.work.now, ap length c.tell.ensures.text_of_sheet)

pub returns : goal.returns
returns c =
    let written = rw c.tell.ensures.text_of_sheet at c.put.ensures in
    record {
      text_length = written.0;
      text_in_front = written.1;
      work_as_outcome = c.tell.ensures.work_as_outcome;
      length_inside = within _ c.args.out.now _ _ written.0 written.1;
    }
