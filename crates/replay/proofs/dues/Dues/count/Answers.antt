use Rattle.std.proofs.Common.{◌∙◌}
use Rattle.replay.proofs.Holding.{how_many}
use Rattle.replay.proofs.dues.Dues.count.Goals as goal

pub returns : goal.returns
returns c xs h = c.len.ensures.value ∙ how_many c.args.self.now xs h
