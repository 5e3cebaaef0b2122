-- `read_behind` takes the lists, then the service minutes, and then judges the whole: each part decides the next step. Assumes nothing.
use Rattle.std.proofs.Common.{rules, refl, sym, ◌∙◌}
use borrow.Author.Tests.{eqb-true, eqb-false}
use Rattle.sheet_services.specs.Services.{leading}
use Rattle.sheet_services.proofs.FormLaws.{counted}
use Rattle.sheet_reader.specs.Answer.{sheet_behind}
use Rattle.sheet_reader.proofs.TakenLaws.{lists_refused, services_left, services_refused, count_held, bytes_left, too_many, all_taken}
use Rattle.sheet_reader.proofs.read_behind.Goals as goal

pub returns-in_err-take_lists-clause-refused : goal.returns-in_err-take_lists-clause-refused
returns-in_err-take_lists-clause-refused c = let stopped = (lists_refused (leading c.args.leads) c.args.header c.args.section.now c.in_err-take_lists.ensures.refused).0 in search rules

pub returns-in_err-take_lists-clause-services_in_front : goal.returns-in_err-take_lists-clause-services_in_front
returns-in_err-take_lists-clause-services_in_front c = rw (lists_refused (leading c.args.leads) c.args.header c.args.section.now c.in_err-take_lists.ensures.refused).1 refl

pub returns-in_err-take_services-clause-refused : goal.returns-in_err-take_services-clause-refused
returns-in_err-take_services-clause-refused c = let stopped = services_refused (leading c.args.leads) c.args.header c.args.section.now c.in_ok-take_lists.ensures.got (rw (counted c.args.leads c.from.ensures) at c.in_err-take_services.ensures.refused.refused (sheet_behind c.args.header c.args.section.now) refl) in search rules

pub returns-in_err-take_services-clause-services_in_front : goal.returns-in_err-take_services-clause-services_in_front
returns-in_err-take_services-clause-services_in_front c = rw (services_left (leading c.args.leads) c.args.header c.args.section.now c.in_ok-take_lists.ensures.got) (rw (counted c.args.leads c.from.ensures) at c.take_services.ensures.services_in_front)

pub returns-then-not-is_empty-clause-refused : goal.returns-then-not-is_empty-clause-refused
returns-then-not-is_empty-clause-refused c = bytes_left (leading c.args.leads) c.args.header c.args.section.now c.in_ok-take_lists.ensures.got (rw (counted c.args.leads c.from.ensures) at c.in_ok-take_services.ensures.got.taken (sheet_behind c.args.header c.args.section.now) refl) (eqb-false _ 0 (sym c.is_empty.ensures ∙ c.if-not-is_empty.true))

pub returns-then-not-is_empty-clause-services_in_front : goal.returns-then-not-is_empty-clause-services_in_front
returns-then-not-is_empty-clause-services_in_front c = rw (services_left (leading c.args.leads) c.args.header c.args.section.now c.in_ok-take_lists.ensures.got) (rw (counted c.args.leads c.from.ensures) at c.take_services.ensures.services_in_front)

pub returns-then-few-clause-got : goal.returns-then-few-clause-got
returns-then-few-clause-got c = all_taken (leading c.args.leads) c.args.header c.args.section.now c.in_ok-take_lists.ensures.got (rw (counted c.args.leads c.from.ensures) at c.in_ok-take_services.ensures.got.taken (sheet_behind c.args.header c.args.section.now) refl) (eqb-true _ 0 (sym c.is_empty.ensures ∙ c.if-not-is_empty.false)) (sym c.if-few.true ∙ count_held (leading c.args.leads) c.args.header c.args.section.now c.in_ok-take_lists.ensures.got c.args.arcs.now c.args.marks.now c.take_lists.ensures.arcs_in_front c.take_lists.ensures.marks_in_front c.few.ensures)

pub returns-then-few-clause-services_in_front : goal.returns-then-few-clause-services_in_front
returns-then-few-clause-services_in_front c = rw (services_left (leading c.args.leads) c.args.header c.args.section.now c.in_ok-take_lists.ensures.got) (rw (counted c.args.leads c.from.ensures) at c.take_services.ensures.services_in_front)

pub returns-else-few-clause-refused : goal.returns-else-few-clause-refused
returns-else-few-clause-refused c = too_many (leading c.args.leads) c.args.header c.args.section.now c.in_ok-take_lists.ensures.got (rw (counted c.args.leads c.from.ensures) at c.in_ok-take_services.ensures.got.taken (sheet_behind c.args.header c.args.section.now) refl) (eqb-true _ 0 (sym c.is_empty.ensures ∙ c.if-not-is_empty.false)) (sym c.if-few.false ∙ count_held (leading c.args.leads) c.args.header c.args.section.now c.in_ok-take_lists.ensures.got c.args.arcs.now c.args.marks.now c.take_lists.ensures.arcs_in_front c.take_lists.ensures.marks_in_front c.few.ensures)

pub returns-else-few-clause-services_in_front : goal.returns-else-few-clause-services_in_front
returns-else-few-clause-services_in_front c = rw (services_left (leading c.args.leads) c.args.header c.args.section.now c.in_ok-take_lists.ensures.got) (rw (counted c.args.leads c.from.ensures) at c.take_services.ensures.services_in_front)
