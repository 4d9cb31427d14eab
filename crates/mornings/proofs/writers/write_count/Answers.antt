use Rattle.mornings.proofs.Chains.{word_put}
use Rattle.mornings.proofs.writers.write_count.Goals as goal

pub returns : goal.returns
returns c = word_put 2 c.args.out.now _ c.args.at c.args.n c.write.ensures
