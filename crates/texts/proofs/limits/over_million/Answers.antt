use Rattle.texts.proofs.Weights.{over_million_lem}
use Rattle.texts.proofs.limits.over_million.Goals as goal

pub returns : goal.returns
returns c = over_million_lem c.args.a c.args.b
