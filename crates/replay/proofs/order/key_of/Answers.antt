use Rattle.std.proofs.Common.{◌+◌, ◌*◌, ap}
use Rattle.replay.specs.Order.{key_of, pair_in}
use Rattle.replay.proofs.order.key_of.Goals as goal

pub returns : goal.returns
unfolding key_of pair_in
returns c = ap (λ p. 65536 * p + c.args.c) c.pair_of.ensures.is
