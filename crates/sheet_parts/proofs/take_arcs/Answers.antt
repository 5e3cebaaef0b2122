-- `take_arcs` reads over the first `count` places.
use lib.Seq.{length-take-le}
use Rattle.std.proofs.Common.{rules}
use Rattle.sheet.specs.Reader.{read_arc}
use Rattle.numbers.specs.Begun.{begun}
use Rattle.numbers.proofs.SeveralLaws.{part_got, part_front}
use Rattle.sheet_parts.proofs.take_arcs.Goals as goal

pub returns-in_err-read_all-clause-arcs_in_front : goal.returns-in_err-read_all-clause-arcs_in_front
returns-in_err-read_all-clause-arcs_in_front c =
    let size = length-take-le c.args.count c.args.arcs.now c.requires in
    part_front (begun (read_arc c.args.nodes) c.args.count c.args.bytes.now.rest.now) c.args.arcs.now c.args.count (rw size at c.read_all.ensures.in_front) (search rules) c.requires

pub returns-clause-got : goal.returns-clause-got
returns-clause-got c =
    part_got (read_arc c.args.nodes) c.args.bytes.now.rest.now (length-take-le c.args.count c.args.arcs.now c.requires) c.in_ok-read_all.ensures.got

pub returns-clause-arcs_in_front : goal.returns-clause-arcs_in_front
returns-clause-arcs_in_front c =
    let size = length-take-le c.args.count c.args.arcs.now c.requires in
    part_front (begun (read_arc c.args.nodes) c.args.count c.args.bytes.now.rest.now) c.args.arcs.now c.args.count (rw size at c.read_all.ensures.in_front) (search rules) c.requires
