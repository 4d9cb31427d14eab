use Rattle.std.proofs.Common.{arith}
use Rattle.std.proofs.lemmas.Result.{err_from_is_err_and}
use Rattle.mornings.proofs.Rows.{reached_more, reached_refused, reached_all}
use Rattle.mornings.proofs.parts.row.Goals as goal

pub returns-in_err-to : goal.returns-in_err-to
returns-in_err-to g c =
    let p = err_from_is_err_and c.from_residual.result c.from_residual.ensures.1 in
    rw (p.1, p.2) (reached_refused _ c.args.n 0 c.args.at c.loop-k._k c.loop-k.to _ c.loop-k.invariant (omega arith) c.in_err-to.ensures)

pub loop-k-preserved : goal.loop-k-preserved
loop-k-preserved g c = reached_more _ c.args.n 0 c.args.at c.loop-k._k c.loop-k.to c.in_ok-to.to c.loop-k.invariant (omega arith) c.in_ok-to.ensures

pub returns : goal.returns
returns g c = reached_all _ c.args.n 0 c.args.at c.loop-k._k c.loop-k.to c.loop-k.invariant (omega arith)
