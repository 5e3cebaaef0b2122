-- The text of what is told.
use Rattle.std.specs.Prelude.{ℕ, List}
use Rattle.varint.specs.Refusal.{number_of}
use Rattle.cost_lines.specs.Told.{costs_text}
use Rattle.text_answer.specs.Text.{refused_text}
use Rattle.text_cost.specs.declared.Told.{Told}
use Rattle.text_cost.specs.declared.Told.TheVariants.{Costs, Refuses}

abbrev pub told_text : Told → List ℕ
told_text (Costs costs) = costs_text costs
told_text (Refuses why) = refused_text (number_of why)
