use Rattle.std.proofs.Common.{arith}
use Rattle.std.proofs.lemmas.Bool.Decides.{nat_tests}
use Rattle.replay.specs.Choices.{chosen_on}
use Rattle.replay.proofs.days.Days.chosen_on.Goals as goal

pub returns-in_default : goal.returns-in_default
unfolding chosen_on
returns-in_default c = grind (arith, nat_tests, c.in_default.ensures.lookup)

pub returns : goal.returns
unfolding chosen_on
returns c = grind (arith, nat_tests, c.in-Some.ensures.lookup)
