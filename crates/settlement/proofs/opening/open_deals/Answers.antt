use Rattle.std.proofs.Common.{arith}
use Rattle.settlement.proofs.Opened.{opening_more, opening_end}
use Rattle.settlement.proofs.opening.open_deals.Goals as goal

pub loop-k-preserved : goal.loop-k-preserved
loop-k-preserved c day dd j hs coins row early many keeps =
    opening_more c.args.start day c.args.bytes.now c.args.n c.args.first dd j hs c.loop-k.k c.loop-k.at c.loop-k.deals c.open_next-at.new.deals c.open_next-at.result coins (omega arith) many
    (omega (arith, c.requires, c.loop-k.auto.deals)) early c.open_next-at.ensures (c.loop-k.invariant day dd j hs coins row early many keeps)

pub returns : goal.returns
returns c day dd j hs coins row early many keeps =
    opening_end c.args.start day c.args.bytes.now c.args.n c.args.first dd j hs c.loop-k.k c.loop-k.at c.loop-k.deals (omega arith) (c.loop-k.invariant day dd j hs coins row early many keeps)
