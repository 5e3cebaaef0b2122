-- `take_lists` takes the arcs, then the marks. Assumes nothing.
use Rattle.std.proofs.Common.{rules, ◌≡◌, ◌+◌, refl, length, take}
use native.Mathlib.Omega.{arith}
use lib.ListN.{length-take}
use Rattle.numbers.specs.Begun.{begun}
use Rattle.sheet.specs.Reader.{read_mark}
use Rattle.numbers.proofs.SeveralLaws.{part_got, part_refused, part_front}
use Rattle.sheet_reader.specs.Answer.{arcs_behind}
use Rattle.sheet_reader.proofs.TakenLaws.{arcs_refused, marks_left, marks_refused, lists_read}
use Rattle.sheet_reader.proofs.take_lists.Goals as goal

pub returns-in_err-take_arcs-clause-refused : goal.returns-in_err-take_arcs-clause-refused
returns-in_err-take_arcs-clause-refused c = let stopped = (arcs_refused c.args.header c.args.bytes.now.rest.now c.in_err-take_arcs.ensures.refused).0 in search rules

pub returns-in_err-take_arcs-clause-arcs_in_front : goal.returns-in_err-take_arcs-clause-arcs_in_front
unfolding arcs_behind
returns-in_err-take_arcs-clause-arcs_in_front c = c.take_arcs.ensures.arcs_in_front

pub returns-in_err-take_arcs-clause-marks_in_front : goal.returns-in_err-take_arcs-clause-marks_in_front
returns-in_err-take_arcs-clause-marks_in_front c = rw (arcs_refused c.args.header c.args.bytes.now.rest.now c.in_err-take_arcs.ensures.refused).1 refl

pub returns-in_err-read_all-clause-refused : goal.returns-in_err-read_all-clause-refused
returns-in_err-read_all-clause-refused c =
    let size : length (take (c.args.header.nodes + c.args.header.arcs) c.args.marks.now) ≡ (c.args.header.nodes + c.args.header.arcs) = simp length-take (omega arith) in
    let stopped = marks_refused c.args.header c.args.bytes.now.rest.now c.in_ok-take_arcs.ensures.got (part_refused read_mark c.take_arcs.new.bytes.rest.now size c.in_err-read_all.ensures.refused) in search rules

pub returns-in_err-read_all-clause-arcs_in_front : goal.returns-in_err-read_all-clause-arcs_in_front
unfolding arcs_behind
returns-in_err-read_all-clause-arcs_in_front c = c.take_arcs.ensures.arcs_in_front

pub returns-in_err-read_all-clause-marks_in_front : goal.returns-in_err-read_all-clause-marks_in_front
returns-in_err-read_all-clause-marks_in_front c =
    let size : length (take (c.args.header.nodes + c.args.header.arcs) c.args.marks.now) ≡ (c.args.header.nodes + c.args.header.arcs) = simp length-take (omega arith) in
    rw (marks_left c.args.header c.args.bytes.now.rest.now c.in_ok-take_arcs.ensures.got) (part_front (begun read_mark (c.args.header.nodes + c.args.header.arcs) c.take_arcs.new.bytes.rest.now) c.args.marks.now (c.args.header.nodes + c.args.header.arcs) (rw size at c.read_all.ensures.in_front) (search rules) (omega arith))

pub returns-clause-got : goal.returns-clause-got
returns-clause-got c =
    let size : length (take (c.args.header.nodes + c.args.header.arcs) c.args.marks.now) ≡ (c.args.header.nodes + c.args.header.arcs) = simp length-take (omega arith) in
    lists_read c.args.header c.args.bytes.now.rest.now c.in_ok-take_arcs.ensures.got (part_got read_mark c.take_arcs.new.bytes.rest.now size c.in_ok-read_all.ensures.got)

pub returns-clause-arcs_in_front : goal.returns-clause-arcs_in_front
unfolding arcs_behind
returns-clause-arcs_in_front c = c.take_arcs.ensures.arcs_in_front

pub returns-clause-marks_in_front : goal.returns-clause-marks_in_front
returns-clause-marks_in_front c =
    let size : length (take (c.args.header.nodes + c.args.header.arcs) c.args.marks.now) ≡ (c.args.header.nodes + c.args.header.arcs) = simp length-take (omega arith) in
    rw (marks_left c.args.header c.args.bytes.now.rest.now c.in_ok-take_arcs.ensures.got) (part_front (begun read_mark (c.args.header.nodes + c.args.header.arcs) c.take_arcs.new.bytes.rest.now) c.args.marks.now (c.args.header.nodes + c.args.header.arcs) (rw size at c.read_all.ensures.in_front) (search rules) (omega arith))
