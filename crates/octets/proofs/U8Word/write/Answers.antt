use Rattle.octets.proofs.Words.{set_put_word}
use Rattle.octets.proofs.U8Word.write.Goals as goal

pub returns : goal.returns
returns c = set_put_word c.args.s.now c.args.i c.args.self c.requires c.ranges.self.fits
