use Rattle.octets.proofs.Words.{word_1}
use Rattle.octets.proofs.U8Word.read.Goals as goal

pub returns : goal.returns
returns c = word_1 c.args.s.now c.args.i c.requires
