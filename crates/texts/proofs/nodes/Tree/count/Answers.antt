use Rattle.std.proofs.Common.{arith}
use Rattle.texts.proofs.Rows.{holds_long}
use Rattle.texts.proofs.nodes.Tree.count.Goals as goal

pub returns : goal.returns
returns c ns h = omega (arith, c.len.ensures.value, holds_long h)
