-- The text that the program prints (document 01, 'The sheet B and what it gives', last paragraph).
use Rattle.std.specs.Prelude.{ℕ, ◌&&◌, List, [], ◌∷◌, ◌++◌, length, get_or, eqb, ltb}
use Rattle.lists.specs.Lists.{pick, keep, span}
use Rattle.varint.specs.Varint.{Read, got, refuse}
use Rattle.sheet.specs.Sheet.{Sheet}
use Rattle.sheet.specs.Reader.{taken}
use Rattle.sheet.specs.Slip.{Slip, read_slip}
use Rattle.sheet.specs.Lent.{work_numbers}
use Rattle.sheet.specs.Answer.{Answer, finished, refused}
use Rattle.pass_rules.specs.Pass.{pass_on, verdict_in, mark_in}
use Rattle.text_lines.specs.Lines.{line}

-- `verdict`, `struck`, `needs`, `because`, `refused`, in ASCII
abbrev pub verdict_word : List ℕ
verdict_word = 118 ∷ 101 ∷ 114 ∷ 100 ∷ 105 ∷ 99 ∷ 116 ∷ []

abbrev pub struck_word : List ℕ
struck_word = 115 ∷ 116 ∷ 114 ∷ 117 ∷ 99 ∷ 107 ∷ []

abbrev pub needs_word : List ℕ
needs_word = 110 ∷ 101 ∷ 101 ∷ 100 ∷ 115 ∷ []

abbrev pub because_word : List ℕ
because_word = 98 ∷ 101 ∷ 99 ∷ 97 ∷ 117 ∷ 115 ∷ 101 ∷ []

abbrev pub refused_word : List ℕ
refused_word = 114 ∷ 101 ∷ 102 ∷ 117 ∷ 115 ∷ 101 ∷ 100 ∷ []

-- the items newly forbidden, ascending: open on the sheet and with mark 2 in the slip
unfoldable pub newly_forbidden : List ℕ → List ℕ → List ℕ
newly_forbidden marks slip = keep (λ i. eqb (get_or marks i 0) 0 && eqb (mark_in slip i) 2) (span (length marks) 0)

-- verdict 0: the items struck off
unfoldable pub stands_text : List ℕ → List ℕ
stands_text struck = line verdict_word (0 ∷ []) ++ line struck_word struck

-- verdicts 1 to 3: the goals and the reasons
unfoldable pub blame_text : Slip → List ℕ
blame_text s = (line verdict_word (s.first ∷ []) ++ line needs_word s.goals) ++ line because_word s.reasons

-- the marks of a sheet that was read
unfoldable pub marks_of : Read Sheet → List ℕ
marks_of (got S rest) = S.marks
marks_of (refuse e) = []

-- a slip that is read; no slip of a pass is refused
unfoldable pub blamed : Read Slip → List ℕ
blamed (got s rest) = blame_text s
blamed (refuse e) = []

-- a finished pass, by its slip
unfoldable pub slip_text : List ℕ → List ℕ → List ℕ
slip_text sheet slip = pick (eqb (verdict_in slip) 0) (stands_text (newly_forbidden (marks_of (taken sheet)) slip)) (blamed (read_slip slip))

-- a refusal, by its number
unfoldable pub refused_text : ℕ → List ℕ
refused_text e = line refused_word (e ∷ [])

-- what pass answers to a sheet, as text
unfoldable pub text : List ℕ → Answer → List ℕ
text sheet (finished slip) = slip_text sheet slip
text sheet (refused e) = refused_text e

-- what pass answers to a sheet and this work, lent a slip of 1,200 bytes
unfoldable pub answer : List ℕ → List ℕ → Answer
answer sheet work = pick (ltb (length work) work_numbers) (refused 1) (pass_on sheet)
