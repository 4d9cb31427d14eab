use Rattle.replay.proofs.Anew.{stands_anew_lem}
use Rattle.replay.proofs.settle.stands_anew.Goals as goal

pub returns : goal.returns
returns c = stands_anew_lem
