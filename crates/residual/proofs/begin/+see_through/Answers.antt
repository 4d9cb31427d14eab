use Rattle.std.proofs.Common.{arith, w64}
use Rattle.std.proofs.lemmas.Int.{to_z-of_z, wrapping_neg_is}
use Rattle.residual.specs.Steps.{by_above}
use Rattle.residual.proofs.Unroll.{through_step}
use Rattle.residual.proofs.begin.+see_through.Goals as goal

pub returns-in-Some : goal.returns-in-Some
unfolding by_above
returns-in-Some t c =
    let negated = wrapping_neg_is w64 c.args.amount c.ranges.amount in
    grind (arith, to_z-of_z, through_step)
