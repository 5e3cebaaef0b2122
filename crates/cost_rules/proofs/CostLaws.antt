-- The promises of request 2.4, over every input: the slack is negative or `none`, each later line a number within the limit, the refusals are those of
-- reason, and the text has room in 8,192 bytes. A struck item is one that no walk meets within the limit; a listed closure is one whose opening, with all
-- that is not listed, lets some walk meet it (demand 3). Assumes nothing.
use Prim.Native.Nat.{ℕ, ◌-◌, ◌^◌, ◌≤◌, ◌<◌}
use mathlib.Core.Path.{◌≡◌, refl, sym, ap, ◌∙◌}
use mathlib.Core.Logic.{◌⊎◌, inl, inr, ◌↔◌}
use mathlib.Core.Bool.{Bool, true, false, true≢false}
use mathlib.Core.List.{List, [], ◌∷◌, ◌++◌}
use native.Mathlib.Omega.{arith}
use lib.ListN.{length, length-append}
use borrow.Author.Tests.{leb-true, leb-false}
use Rattle.lists.proofs.MemberLaws.{member_head, member_tail}
use Rattle.lists.specs.Lists.{member}
use Rattle.varint.specs.Varint.{Read, got, refuse, after, read_number}
use Rattle.walks.proofs.Bound.{least_bound}
use Rattle.walks.proofs.FitsLaws.{some_fits}
use Rattle.walks.proofs.LeastLaw.{IsLeast, is_least}
use Rattle.walks.specs.Graph.{fits}
use Rattle.walks.specs.Lengths.{Least, none, some, within}
use Rattle.sheet.proofs.RefusalLaws.{AmongThese, number_refuses}
use Rattle.sheet.specs.Answer.{finished, refused, answer_of}
use Rattle.sheet.specs.Sheet.{Sheet, is_forbidden}
use Rattle.reason_list.specs.Reasons.{but}
use Rattle.sheet.proofs.SheetLaws.{taken_good, good_weight}
use Rattle.sheet.specs.Good.{Good}
use Rattle.pass_rules.proofs.SlipOfPass.{reasons_count}
use Rattle.sheet.specs.Reader.{taken}
use Rattle.pass_rules.specs.Verdict.{fits_sheet, reasons_for}
use Rattle.reason_rules.proofs.AnswerLaws.{reason_finished}
use Rattle.reason_rules.proofs.Demand3.{pruned_unmet, list_minimal}
use Rattle.reason_rules.proofs.WithinLaws.{reason_refusals, reason_refused}
use Rattle.reason_rules.specs.Reason.{reason_in, reason_on}
use Rattle.text_lines.proofs.LineLaws.{difference_high, number_size, difference_size, lines_size}
use Rattle.text_lines.specs.Lines.{number_line, lines}
use Rattle.text_answer.proofs.SizeLaws.{refused_size}
use Rattle.cost_rules.specs.Cost.{length_through, none_line, slack_line, length_line, length_opened, opened_line, cost_lines, cost_in, cost_for, cost_on, text_of, cost_text}

-- what is printed is about walks of any number of arcs
pub cost_walks : (S : Sheet) (closed : ℕ → Bool) (i : ℕ) → IsLeast S.graph closed (i ∷ []) S.source S.target (length_through S closed i)
unfolding length_through
cost_walks S closed i = is_least S.graph closed (i ∷ []) S.source S.target

-- reading on after reason's answer alters no refusal
then_refused : (r : Read (List ℕ)) (text : List ℕ) (e : ℕ) → (answer_of (after r (λ slip. got text)) ≡ refused e) ↔ (answer_of r ≡ refused e)
unfolding answer_of after
then_refused (got bs rest) text e = (λ z. absurd (let y : ◌≡◌ {A = ℕ} 0 1 = cc in omega arith), λ z. absurd (let y : ◌≡◌ {A = ℕ} 0 1 = cc in omega arith))
then_refused (refuse w) text e = (λ z. z, λ z. z)

then_finished : (r : Read (List ℕ)) (slip text : List ℕ) → answer_of r ≡ finished slip → answer_of (after r (λ bs. got text)) ≡ finished text
unfolding answer_of after
then_finished (got bs rest) slip text e = refl
then_finished (refuse w) slip text e = absurd (let y : ◌≡◌ {A = ℕ} 0 1 = cc in omega arith)

-- for an item number that was read, the refusals are those of reason
pub for_refuses : (sheet : List ℕ) (i e : ℕ) → (answer_of (cost_for i sheet) ≡ refused e) ↔ (reason_on sheet i ≡ refused e)
unfolding cost_for cost_in reason_on answer_of after
for_refuses sheet i e = go (taken sheet)
  where
    go : (r : Read Sheet) → (answer_of (after r (cost_in i)) ≡ refused e) ↔ (answer_of (after r (reason_in i)) ≡ refused e)
    go (got S rest) = then_refused (reason_in i S rest) (cost_lines S i (reasons_for S (i ∷ []))) e
    go (refuse w) = (λ z. z, λ z. z)

-- and where reason finishes, so does the tool, with the lines
pub for_finishes : (sheet slip : List ℕ) (i : ℕ) (S : Sheet) → taken sheet ≡ got S [] → reason_on sheet i ≡ finished slip
    → answer_of (cost_for i sheet) ≡ finished (cost_lines S i (reasons_for S (i ∷ [])))
unfolding cost_for cost_in reason_on after
for_finishes sheet slip i S a e = rw a (then_finished (reason_in i S []) slip (cost_lines S i (reasons_for S (i ∷ []))) (rw a at e))

-- what was read of the number draws the refusal, or reason does behind it
abbrev pub Draws : Read ℕ → ℕ → Type 0
Draws r e = (r ≡ refuse e) ⊎ ((i : ℕ) × (sheet : List ℕ) × (r ≡ got i sheet) × (reason_on sheet i ≡ refused e))

-- The tool refuses exactly where the number draws the refusal, or is read and reason refuses so for it and the bytes behind it.
pub cost_refuses : (input : List ℕ) (e : ℕ) → (cost_on input ≡ refused e) ↔ Draws (read_number input) e
unfolding cost_on answer_of after
cost_refuses input e = (forth (read_number input), back (read_number input))
  where
    forth : (r : Read ℕ) → answer_of (after r cost_for) ≡ refused e → Draws r e
    forth (got i sheet) z = inr (i, sheet, refl, (for_refuses sheet i e).0 z)
    forth (refuse w) z = inl (let y : w ≡ e = cc in ap refuse y)

    back : (r : Read ℕ) → Draws r e → answer_of (after r cost_for) ≡ refused e
    back r (inl z) = rw z
    back r (inr (i, sheet, z, f)) = rw z ((for_refuses sheet i e).1 f)

-- so it is one of 3 to 13 or 15 or 16: 1 and 2 do not arise
pub cost_refusals : (input : List ℕ) (e : ℕ) → cost_on input ≡ refused e → AmongThese reason_refusals e
cost_refusals input e z = go ((cost_refuses input e).0 z)
  where
    go : Draws (read_number input) e → AmongThese reason_refusals e
    go (inl n) = inl (number_refuses input e n)
    go (inr (i, sheet, n, f)) = reason_refused sheet i e f

-- a length is over k, or missing; or within k
pub data Over (k : ℕ) : Least → Type 0 where
  missing : Over k none
  longer : (a : ℕ) → k < a → Over k (some a)

not_within : (k : ℕ) (r : Least) → within r k ≡ false → Over k r
unfolding within
not_within k none e = missing
not_within k (some a) e = longer a (leb-false a k e)

is_within : (k : ℕ) (r : Least) → within r k ≡ true → (a : ℕ) × (r ≡ some a) × (a ≤ k)
unfolding within
is_within k none e = absurd (true≢false (sym e))
is_within k (some a) e = (a, refl, leb-true a k e)

-- a line that is `none`, or a minus and a number over 0
pub data Negative : List ℕ → Type 0 where
  absent : Negative none_line
  minus : (d : ℕ) → 0 < d → Negative (45 ∷ number_line d)

over_negative : (k : ℕ) (r : Least) → Over k r → Negative (slack_line k r)
unfolding slack_line
over_negative k r missing = absent
over_negative k r (longer a h) = rw (difference_high k a h) (minus (a - k) (omega arith))

-- the lengths, one for each listed closure in the list's order, each within the limit
abbrev pub Opened : Sheet → ℕ → List ℕ → List ℕ → List ℕ → Type 0
Opened S i list [] [] = Unit {0}
Opened S i list [] (a ∷ lengths) = ⊥
Opened S i list (r ∷ rs) [] = ⊥
Opened S i list (r ∷ rs) (a ∷ lengths) = (length_opened S i list r ≡ some a) × (a ≤ S.limit) × Opened S i list rs lengths

-- What a text says of an item and a list of closures: the slack, which is `none` or negative, and such lengths, each alone on its line.
pub record Told (S : Sheet) (i : ℕ) (list text : List ℕ) : Type 0 where
  pub negative : Negative (slack_line S.limit (length_through S (is_forbidden S) i))
  pub lengths : List ℕ
  pub opened : Opened S i list list lengths
  pub says : text ≡ slack_line S.limit (length_through S (is_forbidden S) i) ++ lines number_line lengths

-- each of these closures gives a length within the limit
opened_each : (S : Sheet) (i : ℕ) (list rs : List ℕ)
    → ((r : ℕ) → member r rs ≡ true → (a : ℕ) × (length_opened S i list r ≡ some a) × (a ≤ S.limit))
    → (lengths : List ℕ) × Opened S i list rs lengths × (lines (opened_line S i list) rs ≡ lines number_line lengths)
unfolding opened_line length_line
opened_each S i list [] f = ([], tt, refl)
opened_each S i list (r ∷ rs) f =
    let a = f r (member_head r rs) in
    let l = opened_each S i list rs (λ q m. f q (member_tail q r rs m)) in
    (a.0 ∷ l.0, (a.1, a.2, l.1), rw (a.1, l.2))

-- asked for an item that the pass strikes off
module _ (input sheet slip : List ℕ) (i : ℕ) (S : Sheet) (n : read_number input ≡ got i sheet) (a : taken sheet ≡ got S []) (e : reason_on sheet i ≡ finished slip) where
  pub cost_finishes : cost_text input ≡ cost_lines S i (reasons_for S (i ∷ []))
  unfolding cost_text text_of cost_on after
  cost_finishes = rw (n, for_finishes sheet slip i S a e)

  -- Clear of the forbidden items, the way through the item is over the limit or missing.
  pub cost_over : Over S.limit (length_through S (is_forbidden S) i)
  unfolding length_through fits_sheet fits
  cost_over = not_within S.limit _ (pruned_unmet S i (reason_finished sheet S i slip a e).pruned)

  -- With a listed closure open, the others shut and all else open, it is within the limit.
  pub cost_within : (r : ℕ) → member r (reasons_for S (i ∷ [])) ≡ true
      → (b : ℕ) × (length_opened S i (reasons_for S (i ∷ [])) r ≡ some b) × (b ≤ S.limit)
  unfolding length_opened length_through fits
  cost_within r m =
      is_within S.limit _
      (some_fits S.graph S.source S.target S.limit (but (λ j. member j (reasons_for S (i ∷ []))) r) (i ∷ []) (list_minimal S (i ∷ []) r m))

  -- What is printed: the slack, negative or `none`, and for each listed closure, in the list's order, a number within the limit.
  pub cost_lines_lem : Told S i (reasons_for S (i ∷ [])) (cost_text input)
  unfolding cost_lines
  cost_lines_lem =
      let list = reasons_for S (i ∷ []) in
      let l = opened_each S i list list cost_within in
      record {
        negative = over_negative S.limit (length_through S (is_forbidden S) i) cost_over;
        lengths = l.0;
        opened = l.1;
        says = cost_finishes ∙ ap (λ (bs : List ℕ). slack_line S.limit (length_through S (is_forbidden S) i) ++ bs) l.2;
      }

-- how long a line is, of a length that has 32 bits
abbrev Short : Least → Type 0
Short r = (a : ℕ) → r ≡ some a → a < 2 ^ 32

pub none_size : length none_line ≤ 5
unfolding none_line
none_size = omega arith

pub slack_size : (k : ℕ) (r : Least) → k < 2 ^ 32 → Short r → length (slack_line k r) ≤ 12
unfolding slack_line
slack_size k none h s = omega (arith, none_size)
slack_size k (some a) h s = difference_size k a h (s a refl)

pub length_size : (r : Least) → Short r → length (length_line r) ≤ 11
unfolding length_line
length_size none s = omega (arith, none_size)
length_size (some a) s = number_size a (s a refl)

-- no length of a sheet is longer
length_short : (S : Sheet) → Good S → (closed : ℕ → Bool) (i : ℕ) → Short (length_through S closed i)
unfolding length_through
length_short S g closed i a e =
    let b = least_bound S.graph closed (i ∷ []) S.source S.target 66135 a (good_weight S g) g.nodes (omega arith) e in
    omega (arith, b.1)

opened_size : (S : Sheet) → Good S → (i : ℕ) (list : List ℕ) (r : ℕ) → length (opened_line S i list r) ≤ 11
unfolding opened_line length_opened
opened_size S g i list r = length_size _ (length_short S g (but (λ j. member j list) r) i)

pub lines_fit : (S : Sheet) → Good S → (i : ℕ) (list : List ℕ) → length list ≤ 576 → length (cost_lines S i list) ≤ 8192
unfolding cost_lines
lines_fit S g i list h =
    simp length-append
    (omega (arith, slack_size S.limit (length_through S (is_forbidden S) i) (omega (arith, g.limit)) (length_short S g (is_forbidden S) i), lines_size (opened_line S i list) 11 (opened_size S g i list) list))

-- The text has room in 8,192 bytes.
pub cost_size : (input : List ℕ) → length (cost_text input) ≤ 8192
unfolding cost_text cost_on cost_for cost_in text_of answer_of after
cost_size input = read (read_number input)
  where
    asked : (i : ℕ) (sheet : List ℕ) (r : Read Sheet) → taken sheet ≡ r → length (text_of (answer_of (after r (cost_in i)))) ≤ 8192
    asked i sheet (refuse w) q = refused_size w
    asked i sheet (got S rest) q = item (reason_in i S rest)
      where
        item : (r : Read (List ℕ)) → length (text_of (answer_of (after r (λ slip. got (cost_lines S i (reasons_for S (i ∷ []))))))) ≤ 8192
        item (refuse w) = refused_size w
        item (got slip end) =
            let g = taken_good sheet S rest q in
            lines_fit S g i (reasons_for S (i ∷ [])) (omega (arith, reasons_count S (i ∷ []), g.nodes, g.arcs))

    read : (r : Read ℕ) → length (text_of (answer_of (after r cost_for))) ≤ 8192
    read (refuse w) = refused_size w
    read (got i sheet) = asked i sheet (taken sheet) refl
