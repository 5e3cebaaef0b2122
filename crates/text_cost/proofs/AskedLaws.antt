-- From what the calls leave to what the tool prints: reason's slip, the list that it has, and the number in front. Assumes nothing.
use Prim.Native.Nat.{ℕ, ◌≤◌, ◌<◌}
use mathlib.Core.Path.{◌≡◌, sym, ap, ◌∙◌}
use mathlib.Core.List.{List, [], ◌∷◌}
use native.Mathlib.Omega.{arith}
use lib.ListN.{length}
use Rattle.varint.specs.Varint.{got, refuse, after, read_number}
use Rattle.walks.specs.Graph.{item_count}
use Rattle.sheet.proofs.SlipLaws.{Small, slip_back}
use Rattle.sheet.specs.Answer.{finished, refused, answer_of}
use Rattle.sheet.specs.Good.{Good}
use Rattle.sheet.specs.Reader.{taken}
use Rattle.sheet.specs.Sheet.{Sheet}
use Rattle.sheet.specs.Slip.{Slip, slip_bytes, read_slip}
use Rattle.reason_list.proofs.ReasonLaws.{reasons_closed}
use Rattle.pass_rules.proofs.SlipOfPass.{slip_small}
use Rattle.pass_rules.specs.Verdict.{reasons_for, slip_for}
use Rattle.reason_rules.specs.Reason.{reason_on}
use Rattle.slip_reader.specs.Form.{numbers_in, slip_in}
use Rattle.slip_reader.specs.declared.form.SlipForm.{SlipForm}
use Rattle.closed_marks.specs.Closing.{Markable}
use Rattle.cost_rules.proofs.CostLaws.{for_refuses, for_finishes}
use Rattle.cost_rules.specs.Cost.{cost_lines, cost_for, cost_on, text_of, cost_text}
use Rattle.text_answer.specs.Text.{refused_text}

-- where reason refuses, so does the tool
pub refused_text_lem : (sheet : List ℕ) (i n : ℕ) → reason_on sheet i ≡ refused n → text_of (answer_of (cost_for i sheet)) ≡ refused_text n
unfolding text_of
refused_text_lem sheet i n e = rw ((for_refuses sheet i n).1 e)

-- what the slip's reader gives of the slip for an item: its list
pub record Listed (S : Sheet) (i : ℕ) (f : SlipForm) : Type 0 where
  pub count : length (reasons_for S (i ∷ [])) ≡ f.reasons.count
  pub many : f.reasons.count ≤ 576
  pub is : numbers_in f.reasons ≡ reasons_for S (i ∷ [])

module _ (S : Sheet) (g : Good S) (i : ℕ) (h : i < item_count S.graph) (slip : List ℕ) (e : slip_bytes (slip_for S 4 (i ∷ [])) ≡ slip) where
  small : Small (slip_for S 4 (i ∷ []))
  small = slip_small S g 4 (i ∷ []) (omega arith) (omega arith) (omega arith) (h, tt)

  reads : read_slip slip ≡ got (slip_for S 4 (i ∷ [])) []
  reads = ap read_slip (sym e) ∙ slip_back (slip_for S 4 (i ∷ [])) small

  pub never_unformed : read_slip slip ≡ refuse 17 → ⊥
  never_unformed u = let y : ◌≡◌ {A = ℕ} 0 1 = cc reads in omega arith

  pub listed : (f : SlipForm) → read_slip slip ≡ got (slip_in f) [] → Listed S i f
  unfolding slip_for
  listed f u =
      let s : slip_in f ≡ slip_for S 4 (i ∷ []) = cc reads in
      let l : numbers_in f.reasons ≡ reasons_for S (i ∷ []) = ap (λ (s : Slip). s.reasons) s in
      let k : length (reasons_for S (i ∷ [])) ≡ f.reasons.count = ap length (sym l) ∙ f.reasons.counted in
      record { count = k; many = omega (arith, k, small.many); is = l }

-- listed closures are items
pub listed_markable : (S : Sheet) → Good S → (goals : List ℕ) → Markable (reasons_for S goals)
unfolding reasons_for
listed_markable S g goals j m = omega (arith, (reasons_closed S.graph S.source S.target S.limit goals S.marks j m).1, g.nodes, g.arcs)

-- the whole input, by what its number is
pub read_text : (input rest : List ℕ) (i : ℕ) → read_number input ≡ got i rest → text_of (answer_of (cost_for i rest)) ≡ cost_text input
unfolding cost_text cost_on after
read_text input rest i e = rw e

pub unread_text : (input : List ℕ) (n : ℕ) → read_number input ≡ refuse n → refused_text n ≡ cost_text input
unfolding cost_text cost_on after answer_of text_of
unread_text input n e = rw e

-- where reason finished, the sheet is taken
pub never_refused : (sheet slip : List ℕ) (i w : ℕ) → reason_on sheet i ≡ finished slip → taken sheet ≡ refuse w → ⊥
unfolding reason_on answer_of after
never_refused sheet slip i w e t = let y = rw t at e in let z : ◌≡◌ {A = ℕ} 0 1 = cc in omega arith

pub finished_text : (sheet slip : List ℕ) (i : ℕ) (S : Sheet) → taken sheet ≡ got S [] → reason_on sheet i ≡ finished slip
    → text_of (answer_of (cost_for i sheet)) ≡ cost_lines S i (reasons_for S (i ∷ []))
unfolding text_of
finished_text sheet slip i S t e = rw (for_finishes sheet slip i S t e)
