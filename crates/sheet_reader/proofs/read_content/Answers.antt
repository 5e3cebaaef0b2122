-- `read_content` takes the header, and hands the rest of the content, from the limit's end on, to `read_behind`. Assumes nothing.
use Rattle.std.proofs.Common.{rules, refl, ◌∙◌, ap}
use Rattle.sheet_services.specs.Services.{leading}
use Rattle.sheet_reader.specs.Answer.{answered}
use Rattle.walks.specs.Flat.{flat}
use Rattle.sheet_reader.proofs.TakenLaws.{header_refused, header_read}
use Rattle.sheet_reader.proofs.read_content.Goals as goal

pub returns-in_err-header-clause-refused : goal.returns-in_err-header-clause-refused
returns-in_err-header-clause-refused c = let stopped = (header_refused (leading c.args.leads) c.args.content.now c.in_err-header.ensures.refused).0 in search rules

pub returns-in_err-header-clause-arcs_in_front : goal.returns-in_err-header-clause-arcs_in_front
unfolding flat
returns-in_err-header-clause-arcs_in_front c = rw (header_refused (leading c.args.leads) c.args.content.now c.in_err-header.ensures.refused).1.0 refl

pub returns-in_err-header-clause-marks_in_front : goal.returns-in_err-header-clause-marks_in_front
returns-in_err-header-clause-marks_in_front c = rw (header_refused (leading c.args.leads) c.args.content.now c.in_err-header.ensures.refused).1.1.0 refl

pub returns-in_err-header-clause-services_in_front : goal.returns-in_err-header-clause-services_in_front
returns-in_err-header-clause-services_in_front c = rw (header_refused (leading c.args.leads) c.args.content.now c.in_err-header.ensures.refused).1.1.1 refl

pub returns-in_err-read_behind-clause-refused : goal.returns-in_err-read_behind-clause-refused
returns-in_err-read_behind-clause-refused c = let stopped = (header_read (leading c.args.leads) c.args.content.now c.in_ok-header.ensures.got).0 ∙ c.in_err-read_behind.ensures.refused in search rules

pub returns-in_err-read_behind-clause-arcs_in_front : goal.returns-in_err-read_behind-clause-arcs_in_front
returns-in_err-read_behind-clause-arcs_in_front c = rw (header_read (leading c.args.leads) c.args.content.now c.in_ok-header.ensures.got).1.0 c.read_behind.ensures.arcs_in_front

pub returns-in_err-read_behind-clause-marks_in_front : goal.returns-in_err-read_behind-clause-marks_in_front
returns-in_err-read_behind-clause-marks_in_front c = rw (header_read (leading c.args.leads) c.args.content.now c.in_ok-header.ensures.got).1.1.0 c.read_behind.ensures.marks_in_front

pub returns-in_err-read_behind-clause-services_in_front : goal.returns-in_err-read_behind-clause-services_in_front
returns-in_err-read_behind-clause-services_in_front c = rw (header_read (leading c.args.leads) c.args.content.now c.in_ok-header.ensures.got).1.1.1 c.read_behind.ensures.services_in_front

pub returns-clause-got : goal.returns-clause-got
returns-clause-got c = ap answered (header_read (leading c.args.leads) c.args.content.now c.in_ok-header.ensures.got).0 ∙ c.in_ok-read_behind.ensures.got

pub returns-clause-arcs_in_front : goal.returns-clause-arcs_in_front
returns-clause-arcs_in_front c = rw (header_read (leading c.args.leads) c.args.content.now c.in_ok-header.ensures.got).1.0 c.read_behind.ensures.arcs_in_front

pub returns-clause-marks_in_front : goal.returns-clause-marks_in_front
returns-clause-marks_in_front c = rw (header_read (leading c.args.leads) c.args.content.now c.in_ok-header.ensures.got).1.1.0 c.read_behind.ensures.marks_in_front

pub returns-clause-services_in_front : goal.returns-clause-services_in_front
returns-clause-services_in_front c = rw (header_read (leading c.args.leads) c.args.content.now c.in_ok-header.ensures.got).1.1.1 c.read_behind.ensures.services_in_front
