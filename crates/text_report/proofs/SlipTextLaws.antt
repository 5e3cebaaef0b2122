-- The text of a slip that the pass wrote: which of the two kinds it has, that the slip is long enough for the marks, and that its numbers read back and
-- are few. Assumes nothing.
use Prim.Native.Nat.{ℕ, ◌≤◌, ◌<◌}
use mathlib.Core.Path.{◌≡◌, refl, sym, ap, ◌∙◌, subst}
use mathlib.Core.List.{List, [], ◌∷◌}
use native.Mathlib.Omega.{arith}
use lib.ListN.{length}
use borrow.Author.Tests.{eq-eqb, ne_eqb}
use Rattle.varint.specs.Varint.{got, refuse}
use Rattle.walks.specs.Graph.{item_count}
use Rattle.sheet.specs.Good.{Good}
use Rattle.sheet.specs.Reader.{taken}
use Rattle.sheet.specs.Sheet.{Sheet}
use Rattle.sheet.specs.Slip.{Slip, slip_bytes, read_slip}
use Rattle.sheet.proofs.SheetLaws.{taken_got, taken_good}
use Rattle.sheet.proofs.SlipLaws.{Small, slip_back}
use Rattle.slip_reader.specs.declared.form.SlipForm.{SlipForm}
use Rattle.slip_reader.specs.Form.{slip_in}
use Rattle.sheet.specs.Answer.{finished}
use Rattle.pass_rules.specs.Pass.{pass_on, verdict_in}
use Rattle.pass_rules.specs.Verdict.{verdict, slip_for, pass_slip}
use Rattle.pass_rules.proofs.Demand2.{finished_is}
use Rattle.pass_rules.proofs.WithinLaws.{pass_took}
use Rattle.pass_rules.proofs.SlipOfPass.{PassSlipIs, marks, blames, pass_slip_is, pass_finishes, slip_first, new_marks_size}
use Rattle.text_answer.specs.Text.{newly_forbidden, stands_text, blame_text, marks_of, blamed, slip_text}

-- a sheet on which the pass finishes with this slip
pub record Passed (sheet slip : List ℕ) : Type 0 where
  pub read : Sheet
  pub took : taken sheet ≡ got read []
  pub good : Good read
  pub kind : PassSlipIs read slip

pub passed_slip : (sheet slip : List ℕ) → pass_on sheet ≡ finished slip → Passed sheet slip
passed_slip sheet slip e =
    let t = pass_took sheet slip e in
    let S = t.0 in
    let g = taken_good sheet S [] t.1 in
    let y = finished_is (pass_slip S (verdict S)) slip (sym (pass_finishes sheet S t.1) ∙ e) in
    record { read = S; took = t.1; good = g; kind = subst (PassSlipIs S) y (pass_slip_is S g (taken_got sheet S [] t.1).0.few) }

pub never_refused : (sheet slip : List ℕ) (w : ℕ) → pass_on sheet ≡ finished slip → taken sheet ≡ refuse w → ⊥
never_refused sheet slip w e t = let P = passed_slip sheet slip e in let y : ◌≡◌ {A = ℕ} 0 1 = cc P.took in omega arith

-- the slip has its first number
pub slip_some : (sheet slip : List ℕ) → pass_on sheet ≡ finished slip → 0 < length slip
unfolding slip_for
slip_some sheet slip e = let P = passed_slip sheet slip e in go P.read slip P.kind
  where
    some : (bs : List ℕ) → 1 ≤ verdict_in bs → 0 < length bs
    some [] h = absurd (omega arith)
    some (b ∷ bs) h = omega arith

    go : (S : Sheet) (bs : List ℕ) → PassSlipIs S bs → 0 < length bs
    go S bs (marks z) = omega arith
    go S bs (blames l s) = some (slip_bytes (slip_for S (verdict S).number (verdict S).goals)) (omega (arith, l, slip_first (slip_for S (verdict S).number (verdict S).goals) s))

-- verdict 0, with the sheet's marks in hand
pub record Stands (sheet slip ms : List ℕ) : Type 0 where
  pub longer : length ms < length slip
  pub few : length ms ≤ 576
  pub printed : slip_text sheet slip ≡ stands_text (newly_forbidden ms slip)

pub stands_is : (sheet slip ms : List ℕ) (S : Sheet) → pass_on sheet ≡ finished slip → verdict_in slip ≡ 0 → taken sheet ≡ got S [] → ms ≡ S.marks → Stands sheet slip ms
unfolding slip_text marks_of slip_for
stands_is sheet slip ms S e z t m = let P = passed_slip sheet slip e in go P.read P.took P.good slip P.kind refl
  where
    go : (R : Sheet) → taken sheet ≡ got R [] → Good R → (bs : List ℕ) → PassSlipIs R bs → slip ≡ bs → Stands sheet slip ms
    go R q g bs (blames l s) y = absurd (omega (arith, l, z, ap verdict_in y, slip_first (slip_for R (verdict R).number (verdict R).goals) s))
    go R q g bs (marks w) y =
        let r : R ≡ S = cc in
        let n : length ms ≡ item_count R.graph = rw (m, ← r) g.size in
        let k : length ms ≤ 576 = omega (arith, n, g.nodes, g.arcs) in
        record { longer = omega (arith, ap length y, new_marks_size R, n); few = k; printed = rw (eq-eqb (verdict_in slip) 0 z, t, m) }

-- a refused round: its slip reads back
pub record Blame (slip : List ℕ) : Type 0 where
  pub read : Slip
  pub says : read_slip slip ≡ got read []
  pub small : Small read

pub blame_is : (sheet slip : List ℕ) → pass_on sheet ≡ finished slip → (verdict_in slip ≡ 0 → ⊥) → Blame slip
blame_is sheet slip e z = let P = passed_slip sheet slip e in go P.read slip P.kind refl
  where
    go : (R : Sheet) (bs : List ℕ) → PassSlipIs R bs → slip ≡ bs → Blame slip
    go R bs (marks w) y = absurd (z (ap verdict_in y))
    go R bs (blames l s) y =
        let b : read_slip slip ≡ got (slip_for R (verdict R).number (verdict R).goals) [] = ap read_slip y ∙ slip_back (slip_for R (verdict R).number (verdict R).goals) s in
        record { read = slip_for R (verdict R).number (verdict R).goals; says = b; small = s }

-- what the slip's reader gives of it
pub record Told (slip : List ℕ) (f : SlipForm) : Type 0 where
  pub few : f.goals.count ≤ 8
  pub many : f.reasons.count ≤ 576
  pub printed : blamed (read_slip slip) ≡ blame_text (slip_in f)

module _ (sheet slip : List ℕ) (e : pass_on sheet ≡ finished slip) (z : verdict_in slip ≡ 0 → ⊥) where
  pub never_unformed : read_slip slip ≡ refuse 17 → ⊥
  never_unformed u = let B = blame_is sheet slip e z in let y : ◌≡◌ {A = ℕ} 0 1 = cc B.says in omega arith

  pub told : (f : SlipForm) → read_slip slip ≡ got (slip_in f) [] → Told slip f
  unfolding blamed
  told f u = go (blame_is sheet slip e z)
    where
      go : Blame slip → Told slip f
      go B =
          let s : slip_in f ≡ B.read = cc B.says in
          let m : Small (slip_in f) = subst Small (sym s) B.small in
          record { few = omega (arith, m.few, f.goals.counted); many = omega (arith, m.many, f.reasons.counted); printed = ap blamed u }

-- the text of a slip, by its verdict
pub blamed_text : (sheet slip : List ℕ) → (verdict_in slip ≡ 0 → ⊥) → slip_text sheet slip ≡ blamed (read_slip slip)
unfolding slip_text
blamed_text sheet slip z = rw (ne_eqb (verdict_in slip) 0 z)
