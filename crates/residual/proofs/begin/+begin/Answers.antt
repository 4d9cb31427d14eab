use Rattle.std.proofs.Common.{arith}
use Rattle.residual.specs.Steps.{by_node}
use Rattle.residual.proofs.Unroll.{begun_step}
use Rattle.residual.proofs.begin.+begin.Goals as goal

pub returns-in-Some : goal.returns-in-Some
unfolding by_node
returns-in-Some t c =
    let e = c.in-Some.ensures in
    let f = e.2 c.args.due.now in
    grind (arith, begun_step)
