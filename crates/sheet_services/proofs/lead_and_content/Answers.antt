-- `lead_and_content` looks at the first byte. Assumes nothing.
use Rattle.sheet_services.proofs.FormLaws.{Leads, leads_one, leads_other, leads_none}
use Rattle.sheet_services.proofs.lead_and_content.Goals.{in_default-via-in-Some+else-first-eq-LEAD, in_default-via-in_default}
use Rattle.sheet_services.proofs.lead_and_content.Goals as goal

pub returns-in-Some : goal.returns-in-Some
returns-in-Some c = let both = leads_one c.args.sheet.now c.in-Some.ensures.cases.0 c.if-first-eq-LEAD.true in record { lead_told = both.0; content_told = both.1 }

pub returns-in_default : goal.returns-in_default
returns-in_default c =
    let both : Leads c.args.sheet.now 0 c.args.sheet.now = elim c.in_default.branch [
      | in_default-via-in-Some+else-first-eq-LEAD w ↦ leads_other c.args.sheet.now w.in-Some.ensures.cases.0 w.if-first-eq-LEAD.false
      | in_default-via-in_default w ↦ leads_none c.args.sheet.now w.in_default.ensures.cases
    ] in
    record { lead_told = both.0; content_told = both.1 }
