use Rattle.std.proofs.Common.{sym, ◌∙◌}
use Rattle.octets.proofs.Words.{octets_2, put_part}
use Rattle.octets.proofs.U16Word.write.Goals as goal

pub returns : goal.returns
returns c = put_part c.args.s.now 2 c.args.i c.args.self _ (c.copy_from_slice.ensures.after ∙ c.to_le_bytes.ensures ∙ sym (octets_2 c.args.self))
