-- What the check does not find of `relax`: the two cases of `Relaxed` are those of `shorter`.
use mathlib.Core.Path.{refl}
use Rattle.rows.specs.Rows.{same, cut}
use Rattle.rows.proofs.relax.Goals as goal

pub returns-in-Some : goal.returns-in-Some
returns-in-Some c = let f = c.in-Some.ensures.found in rw f.0 (cut (rw f.0 at f.1) (rw f.0 at f.2))

pub returns-in-None : goal.returns-in-None
returns-in-None c = same (c.in-None.ensures.none refl)
