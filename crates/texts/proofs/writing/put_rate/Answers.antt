use Rattle.std.proofs.Common.{arith}
use Rattle.texts.proofs.Laying.{put_then, word_length, put_rate_some}
use Rattle.texts.proofs.writing.put_rate.Goals as goal

pub put_word-next-requires-2 : goal.put_word-next-requires-2
put_word-next-requires-2 c = omega (arith, c.put_number-next.ensures.behind, word_length c.args.k (omega arith), c.put_word-next.ensures.behind)

pub put_number-requires : goal.put_number-requires
put_number-requires c =
    omega (arith, c.put_number-next.ensures.behind, word_length c.args.k (omega arith), c.put_word-next.ensures.behind, c.put_word-next-2.ensures.behind)

pub returns : goal.returns
returns c =
    put_rate_some c.args.k c.args.n c.if-n-eq0.false
    (put_then c.put_word-next.ensures (put_then c.put_number-next.ensures (put_then c.put_word-next-2.ensures c.put_number.ensures)))
