use Rattle.mornings.proofs.Chains.{start_put}
use Rattle.mornings.proofs.writers.write_start.Goals as goal

pub returns : goal.returns
returns c = start_put c.args.out.now _ c.args.at c.args.start.houses c.args.start.rates c.args.start.currencies c.write_head.ensures
