use Rattle.deals.proofs.Later.{later_mornings_lem}
use Rattle.deals.proofs.later_mornings.Goals as goal

pub returns : goal.returns
returns c = later_mornings_lem
