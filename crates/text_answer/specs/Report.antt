-- The text of what the pass answers.
use Rattle.std.specs.Prelude.{ℕ, List}
use Rattle.varint.specs.Refusal.{number_of}
use Rattle.slip_reader.specs.Form.{slip_from}
use Rattle.text_answer.specs.declared.Report.{Report}
use Rattle.text_answer.specs.declared.Report.TheVariants.{Stands, Blames, Refuses}
use Rattle.text_answer.specs.Text.{stands_text, blame_text, refused_text}

abbrev pub report_text : Report → List ℕ
report_text (Stands struck) = stands_text struck.items
report_text (Blames first goals reasons) = blame_text (slip_from first goals.items reasons.items)
report_text (Refuses why) = refused_text (number_of why)
