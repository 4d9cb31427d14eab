use Rattle.std.proofs.Common.{arith}
use Rattle.std.proofs.lemmas.Int.{to_z-of_z}
use Rattle.texts.specs.Spelling.{Put}
use Rattle.texts.specs.Written.{written_amount}
use Rattle.texts.proofs.Laying.{put_then, amount_length, natAbs_small}
use Rattle.texts.proofs.writing.put_pays.Goals as goal

pub put_word-next-requires-2 : goal.put_word-next-requires-2
put_word-next-requires-2 c =
    let fits = c.ranges.a in
    let p : Put c.put_word-next.new.out c.put_amount-next.new.out c.put_word-next.result (written_amount c.args.a) c.put_amount-next.result = simp to_z-of_z at c.put_amount-next.ensures in
    omega (arith, p.behind, amount_length c.args.a (natAbs_small c.args.a fits), c.put_word-next.ensures.behind)

pub put_number-requires : goal.put_number-requires
put_number-requires c =
    let fits = c.ranges.a in
    let p : Put c.put_word-next.new.out c.put_amount-next.new.out c.put_word-next.result (written_amount c.args.a) c.put_amount-next.result = simp to_z-of_z at c.put_amount-next.ensures in
    omega (arith, p.behind, amount_length c.args.a (natAbs_small c.args.a fits), c.put_word-next.ensures.behind, c.put_word-next-2.ensures.behind)

pub returns : goal.returns
returns c =
    let fits = c.ranges.a in
    let p : Put c.put_word-next.new.out c.put_amount-next.new.out c.put_word-next.result (written_amount c.args.a) c.put_amount-next.result = simp to_z-of_z at c.put_amount-next.ensures in
    put_then c.put_word-next.ensures (put_then p (put_then c.put_word-next-2.ensures c.put_number.ensures))
