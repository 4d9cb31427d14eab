use Rattle.std.proofs.Common.{arith}
use Rattle.std.proofs.lemmas.Bool.Decides.{nat_tests}
use Rattle.texts.proofs.Weights.{largest_none, largest_step}
use Rattle.texts.proofs.limits.+largest.Goals as goal

pub returns-then-falling-eq0-clause-is : goal.returns-then-falling-eq0-clause-is
returns-then-falling-eq0-clause-is t c = grind (arith, nat_tests, largest_none)

pub returns-in-Some-clause-is : goal.returns-in-Some-clause-is
returns-in-Some-clause-is t c = grind (arith, nat_tests, largest_step)

pub returns-in_err-e-clause-is : goal.returns-in_err-e-clause-is
returns-in_err-e-clause-is t c = grind (arith, nat_tests, largest_step)

pub returns-in_err-f-clause-is : goal.returns-in_err-f-clause-is
returns-in_err-f-clause-is t c = grind (arith, nat_tests, largest_step)

pub returns-in_err-size-clause-is : goal.returns-in_err-size-clause-is
returns-in_err-size-clause-is t c = grind (arith, nat_tests, largest_step)

pub returns-clause-is : goal.returns-clause-is
returns-clause-is t c = grind (arith, nat_tests, largest_step)
