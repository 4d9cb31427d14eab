use Rattle.std.proofs.Common.{◌*◌, arith}
use Rattle.mornings.proofs.Chains.{payment_put}
use Rattle.mornings.proofs.payments.write_payment.Goals as goal

pub returns : goal.returns
returns c = payment_put c.args.out.now c.write_head.new.out c.write.new.s (13 * c.args.k) c.args.p (omega arith) c.write_head.ensures c.write.ensures
