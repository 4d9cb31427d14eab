use Rattle.std.proofs.Common.{arith}
use Rattle.std.proofs.lemmas.Bool.Decides.{nat_tests}
use Rattle.std.proofs.lemmas.Int.{to_z-of_z}
use Rattle.replay.specs.Days.{rate_on}
use Rattle.replay.proofs.days.Days.rate_on.Goals as goal

pub returns-in_default : goal.returns-in_default
unfolding rate_on
returns-in_default c = grind (arith, nat_tests, c.in_default.ensures.lookup)

pub returns : goal.returns
unfolding rate_on
returns c = grind (arith, nat_tests, to_z-of_z, c.in-Some.ensures.lookup)
