use Rattle.figures.proofs.Short.{exact_when_short_lem}
use Rattle.figures.proofs.exact_when_short.Goals as goal

pub returns : goal.returns
returns c = exact_when_short_lem
