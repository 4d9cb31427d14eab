use Rattle.std.proofs.Common.{arith}
use Rattle.texts.proofs.Laying.{put_then, word_length}
use Rattle.texts.proofs.writing.put_day.Goals as goal

pub put_word-requires : goal.put_word-requires
put_word-requires c = omega (arith, c.put_number-next.ensures.behind, word_length c.args.d (omega arith), c.put_word-next.ensures.behind)

pub returns : goal.returns
returns c = put_then c.put_word-next.ensures (put_then c.put_number-next.ensures c.put_word.ensures)
