use Rattle.std.proofs.Common.{arith}
use Rattle.texts.proofs.Weights.{below_none, below_some}
use Rattle.texts.proofs.limits.lower.Goals as goal

pub returns-then-deep-eq0 : goal.returns-then-deep-eq0
returns-then-deep-eq0 c = below_none c.args.deep (omega arith)

pub returns-else-deep-eq0 : goal.returns-else-deep-eq0
returns-else-deep-eq0 c = below_some c.args.deep (omega arith)
