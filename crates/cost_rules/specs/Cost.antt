-- What a closure costs (document 02, request 2.4): what the tool prints for an item number and the sheet behind it.
use Rattle.std.specs.Prelude.{ℕ, Bool, List, [], ◌∷◌, ◌++◌}
use Rattle.lists.specs.Lists.{member}
use Rattle.varint.specs.Varint.{Read, got, after, read_number}
use Rattle.walks.specs.Graph.{least}
use Rattle.walks.specs.Lengths.{Least, none, some}
use Rattle.sheet.specs.Answer.{Answer, finished, refused, answer_of}
use Rattle.sheet.specs.Sheet.{Sheet, is_forbidden}
use Rattle.reason_list.specs.Reasons.{but}
use Rattle.sheet.specs.Reader.{taken}
use Rattle.pass_rules.specs.Verdict.{reasons_for}
use Rattle.reason_rules.specs.Reason.{reason_in}
use Rattle.text_lines.specs.Lines.{line, number_line, difference_line, lines}
use Rattle.text_answer.specs.Text.{refused_text}

-- the least length of a walk through an item, clear of what is closed
unfoldable pub length_through : Sheet → (ℕ → Bool) → ℕ → Least
length_through S closed i = least S.graph closed (i ∷ []) S.source S.target

-- `none`, in ASCII, alone on its line
unfoldable pub none_line : List ℕ
none_line = line (110 ∷ 111 ∷ 110 ∷ 101 ∷ []) []

-- the slack: k minus the length
unfoldable pub slack_line : ℕ → Least → List ℕ
slack_line k none = none_line
slack_line k (some a) = difference_line k a

unfoldable pub length_line : Least → List ℕ
length_line none = none_line
length_line (some a) = number_line a

-- with the listed closure r open, the others shut and all else open
unfoldable pub length_opened : Sheet → ℕ → List ℕ → ℕ → Least
length_opened S i list r = length_through S (but (λ j. member j list) r) i

unfoldable pub opened_line : Sheet → ℕ → List ℕ → ℕ → List ℕ
opened_line S i list r = length_line (length_opened S i list r)

-- the slack, then a line for each listed closure
unfoldable pub cost_lines : Sheet → ℕ → List ℕ → List ℕ
cost_lines S i list = slack_line S.limit (length_through S (is_forbidden S) i) ++ lines (opened_line S i list) list

-- 15 and 16 where reason refuses; otherwise the lines, with the closures that reason lists
unfoldable pub cost_in : ℕ → Sheet → List ℕ → Read (List ℕ)
cost_in i S rest = after (reason_in i S rest) (λ slip. got (cost_lines S i (reasons_for S (i ∷ []))))

unfoldable pub cost_for : ℕ → List ℕ → Read (List ℕ)
cost_for i sheet = after (taken sheet) (cost_in i)

-- the item number first, then the sheet
unfoldable pub cost_on : List ℕ → Answer
cost_on input = answer_of (after (read_number input) cost_for)

unfoldable pub text_of : Answer → List ℕ
text_of (finished text) = text
text_of (refused e) = refused_text e

unfoldable pub cost_text : List ℕ → List ℕ
cost_text input = text_of (cost_on input)
