use Rattle.std.proofs.Common.{arith, rules}
use Rattle.mornings.proofs.Chains.{head_put}
use Rattle.mornings.proofs.head.write_head.Goals as goal

pub returns : goal.returns
returns c =
    head_put c.args.out.now c.write.new.s c.write-2.new.s c.args.at c.args.a c.args.b c.args.c
    (omega arith) (search rules) c.write.ensures c.write-2.ensures
