-- The first number of a slip by its claim: the verdict of a refused round, or 4 for a struck item.
use Rattle.std.specs.Prelude.{ℕ}
use Rattle.slip_reader.specs.declared.claim.Claim.{Claim}
use Rattle.slip_reader.specs.declared.claim.Claim.TheVariants.{NoWay, Unmet, Apart, Struck}

abbrev pub claim_number : Claim → ℕ
claim_number NoWay = 1
claim_number Unmet = 2
claim_number Apart = 3
claim_number Struck = 4
