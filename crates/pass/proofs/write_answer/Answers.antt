-- `pass::write_answer` meets its contract: the slip of verdict 0, or the goals and their reasons. Assumes nothing.
use Prim.Native.Nat.{ℕ}
use mathlib.Core.Path.{ap, ◌∙◌}
use mathlib.Core.List.{List}
use native.Mathlib.Omega.{arith}
use lib.ListN.{length}
use Rattle.lists.specs.Lists.{front}
use Rattle.pass_verdict.specs.VerdictFound.{number_of_verdict}
use Rattle.pass_verdict.proofs.JudgeLaws.{refused_number}
use Rattle.pass.proofs.AnswerLaws.{stands_slip, blamed, slip_room, named_bytes}
use Rattle.pass.proofs.write_answer.Goals as goal

pub returns-in-Stands : goal.returns-in-Stands
returns-in-Stands c =
    let w = c.write_stands.ensures in
    let e = stands_slip c.of-rows.result.sheet.whole c.find_verdict-verdict.ensures (ap number_of_verdict c.in-Stands.is) in
    rw (← c.of-rows.ensures) (w.0 ∙ ap length e, w.1 ∙ ap (λ (xs : List ℕ). front xs c.args.slip.now) e)

pub ready_rows-requires-clause-goals_and_scratch_fit : goal.ready_rows-requires-clause-goals_and_scratch_fit
ready_rows-requires-clause-goals_and_scratch_fit c =
    let W = c.args.sheet.now.whole in
    let J = rw c.of-rows.ensures at c.find_verdict-verdict.ensures in
    rw (c.net.ensures, c.sheet_query.ensures, c.goals-goals.ensures)
    ((blamed W J (refused_number _ c.in_default.not-Stands)).fit, omega (arith, c.requires.0, c.find_verdict-verdict.auto.scratch), W.source)

pub list_for_sheet-n-requires-clause-blamed : goal.list_for_sheet-n-requires-clause-blamed
list_for_sheet-n-requires-clause-blamed c =
    let J = rw c.of-rows.ensures at c.find_verdict-verdict.ensures in
    (rw c.goals-goals.ensures (blamed c.args.sheet.now.whole J (refused_number _ c.in_default.not-Stands)), omega (arith, c.requires.0, c.ready_rows.auto.scratch, c.find_verdict-verdict.auto.scratch), omega arith)

pub write_slip-requires : goal.write_slip-requires
write_slip-requires c =
    let J = rw c.of-rows.ensures at c.find_verdict-verdict.ensures in
    let r = rw c.goals-goals.ensures at c.list_for_sheet-n.ensures in
    let room = slip_room c.args.sheet.now.whole J (refused_number _ c.in_default.not-Stands) _ c.requires.1 _ r in
    rw (c.number-first.ensures, c.goals-goals.ensures) (record { numbers_small = room.0; slip_fits = room.1 })

pub returns : goal.returns
returns c =
    let J = rw c.of-rows.ensures at c.find_verdict-verdict.ensures in
    let w = rw (c.number-first.ensures, c.goals-goals.ensures) at c.write_slip.ensures in
    let r = rw c.goals-goals.ensures at c.list_for_sheet-n.ensures in
    let e = named_bytes c.args.sheet.now.whole J (refused_number _ c.in_default.not-Stands) _ r in
    (w.0 ∙ ap length e, w.1 ∙ ap (λ (xs : List ℕ). front xs c.args.slip.now) e)
