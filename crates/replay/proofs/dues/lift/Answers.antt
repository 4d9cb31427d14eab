use Rattle.std.proofs.Common.{arith}
use Rattle.std.proofs.lemmas.Bool.Decides.{nat_tests}
use Rattle.std.proofs.lemmas.Int.{to_z-of_z, wrapping_neg_is}
use Rattle.replay.proofs.dues.lift.Goals as goal

pub returns-in-Turn : goal.returns-in-Turn
returns-in-Turn c = grind (arith, nat_tests, to_z-of_z, wrapping_neg_is)
