use Rattle.std.proofs.Common.{arith}
use Rattle.std.specs.Prelude.{Ok, Err}
use Rattle.std.proofs.lemmas.Result.{err_from_is_err_and}
use Rattle.mornings.specs.Judgement.{DealRead}
use Rattle.mornings.proofs.Rows.{reached_more, reached_refused, reached_all, row_passes}
use Rattle.mornings.proofs.parts.deals.Goals as goal

pub returns-in_err-to : goal.returns-in_err-to
returns-in_err-to c =
    let p = err_from_is_err_and c.from_residual.result c.from_residual.ensures.1 in
    rw (p.1, p.2) (row_passes (DealRead c.args.today.stage c.args.today.start c.args.today.day) _ c.args.bytes.now (λ d i r h. h) c.args.n c.args.so_far c.args.at (Err _)
    (reached_refused _ c.args.n c.args.so_far c.args.at c.loop-k.k c.loop-k.to _ c.loop-k.invariant (omega arith) c.in_err-to.ensures))

pub loop-k-preserved : goal.loop-k-preserved
loop-k-preserved c = reached_more _ c.args.n c.args.so_far c.args.at c.loop-k.k c.loop-k.to c.in_ok-to.to c.loop-k.invariant (omega arith) c.in_ok-to.ensures

pub returns : goal.returns
returns c =
    row_passes (DealRead c.args.today.stage c.args.today.start c.args.today.day) _ c.args.bytes.now (λ d i r h. h) c.args.n c.args.so_far c.args.at (Ok c.loop-k.to)
    (reached_all _ c.args.n c.args.so_far c.args.at c.loop-k.k c.loop-k.to c.loop-k.invariant (omega arith))
