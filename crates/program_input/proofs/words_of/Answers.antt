-- The library's `rsplit_once` says where the mark stands last, or that it stands nowhere.
use Rattle.std.proofs.Common.{refl}
use Rattle.std.specs.declared.option.Option.TheVariants.{None, Some}
use Rattle.program_input.proofs.words_of.Goals as goal

pub returns-in-Some : goal.returns-in-Some
returns-in-Some c = (Some (c.in-Some.ensures.cases.0, c.in-Some.ensures.cases.1), c.in-Some.ensures.cases.2, c.in-Some.ensures.cases.3)

pub returns-in-None : goal.returns-in-None
returns-in-None c = (None, c.in-None.ensures.cases, refl)
