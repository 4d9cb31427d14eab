use Rattle.std.proofs.Common.{drop, ◌-◌, arith}
use Rattle.std.proofs.lemmas.List.{length-take, length-drop}
use Rattle.texts.proofs.reading.read_part.Goals as goal

pub behind-requires : goal.behind-requires
behind-requires c =
    let e = c.in-Err.ensures c.args.rates c.args.currencies c.begin.ensures.noted in
    omega (arith, e.1, c.requires.ordered, c.requires.within, c.ranges.to, length-take (c.args.to - c.args.from) (drop c.args.from c.args.bytes.now), length-drop c.args.from c.args.bytes.now)
