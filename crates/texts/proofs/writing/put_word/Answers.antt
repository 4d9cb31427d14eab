use Rattle.texts.proofs.Laying.{put_more}
use Rattle.texts.proofs.writing.put_word.Goals as goal

pub loop-b-preserved : goal.loop-b-preserved
loop-b-preserved c =
    put_more c.args.out.now c.loop-b.out c.put_byte-next.new.out c.args.word.now c.args.to c.loop-b.b-index c.loop-b.next c.put_byte-next.result c.loop-b-test.true c.loop-b.invariant c.put_byte-next.ensures
