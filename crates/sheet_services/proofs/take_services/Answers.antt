-- `take_services` reads what its form asks for, and judges the service minutes together. Assumes nothing.
use Rattle.std.proofs.Common.{rules, ◌≡◌, refl, sym, ◌∙◌, length, take}
use Rattle.sheet.specs.Lent.{zeros}
use Rattle.sheet_services.proofs.BehindLaws.{plain_front, plain_taken, led_front, led_refused, none_refused, some_taken}
use Rattle.sheet_services.proofs.take_services.Goals as goal

pub returns-then-leading-eq0-clause-got : goal.returns-then-leading-eq0-clause-got
returns-then-leading-eq0-clause-got c = plain_taken c.args.nodes c.args.bytes.now.rest.now c.args.leading c.if-leading-eq0.true

pub returns-then-leading-eq0-clause-services_in_front : goal.returns-then-leading-eq0-clause-services_in_front
unfolding zeros
returns-then-leading-eq0-clause-services_in_front c =
    let size : length (take c.args.nodes c.args.services.now) ≡ c.args.nodes = search rules in
    rw (plain_front c.args.nodes c.args.bytes.now.rest.now c.args.leading c.if-leading-eq0.true c.args.services.now, c.fill.ensures.after (λ _ p. p), size) refl

pub returns-in_err-read_all-clause-refused : goal.returns-in_err-read_all-clause-refused
returns-in_err-read_all-clause-refused c =
    let size : length (take c.args.nodes c.args.services.now) ≡ c.args.nodes = search rules in
    let stopped = led_refused c.args.leading c.args.nodes c.args.bytes.now.rest.now c.if-leading-eq0.false size c.in_err-read_all.ensures.refused in
    search rules

pub returns-in_err-read_all-clause-services_in_front : goal.returns-in_err-read_all-clause-services_in_front
returns-in_err-read_all-clause-services_in_front c =
    let size : length (take c.args.nodes c.args.services.now) ≡ c.args.nodes = search rules in
    led_front c.args.leading c.args.nodes c.args.bytes.now.rest.now c.if-leading-eq0.false c.args.services.now size c.read_all.ensures.in_front (search rules) c.requires

pub returns-then-no_service-clause-refused : goal.returns-then-no_service-clause-refused
returns-then-no_service-clause-refused c =
    let size : length (take c.args.nodes c.args.services.now) ≡ c.args.nodes = search rules in
    none_refused c.args.leading c.args.nodes c.args.bytes.now.rest.now c.if-leading-eq0.false size c.in_ok-read_all.ensures.got (sym c.no_service.ensures ∙ c.if-no_service.true)

pub returns-then-no_service-clause-services_in_front : goal.returns-then-no_service-clause-services_in_front
returns-then-no_service-clause-services_in_front c =
    let size : length (take c.args.nodes c.args.services.now) ≡ c.args.nodes = search rules in
    led_front c.args.leading c.args.nodes c.args.bytes.now.rest.now c.if-leading-eq0.false c.args.services.now size c.read_all.ensures.in_front (search rules) c.requires

pub returns-clause-got : goal.returns-clause-got
returns-clause-got c =
    let size : length (take c.args.nodes c.args.services.now) ≡ c.args.nodes = search rules in
    some_taken c.args.leading c.args.nodes c.args.bytes.now.rest.now c.if-leading-eq0.false size c.in_ok-read_all.ensures.got (sym c.no_service.ensures ∙ c.if-no_service.false)

pub returns-clause-services_in_front : goal.returns-clause-services_in_front
returns-clause-services_in_front c =
    let size : length (take c.args.nodes c.args.services.now) ≡ c.args.nodes = search rules in
    led_front c.args.leading c.args.nodes c.args.bytes.now.rest.now c.if-leading-eq0.false c.args.services.now size c.read_all.ensures.in_front (search rules) c.requires
