use Rattle.std.proofs.Common.{subst}
use Rattle.mornings.specs.Pairs.{PairPaid}
use Rattle.replay.proofs.settle.pay_number.Goals as goal

pub returns : goal.returns
returns c =
    subst (λ p. PairPaid p.low p.high c.args.count c.args.sums.now c.args.payments.now c.pay_pair.result c.pay_pair.new.sums c.pay_pair.new.payments) c.numbered.ensures c.pay_pair.ensures
