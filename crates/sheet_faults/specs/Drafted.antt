-- A draft as the code has it, as one of the definitions.
use Rattle.sheet.specs.Draft.{draft_of}
use Rattle.sheet.specs.Draft as definitions
use Rattle.sheet_faults.specs.declared.Draft.{Draft}

abbrev pub drafted : Draft → definitions.Draft
drafted d = draft_of d.header d.arcs.now d.marks.now d.services.now
