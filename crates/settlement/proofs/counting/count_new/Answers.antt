use Rattle.std.proofs.Common.{◌+◌, sym, subst, arith}
use Rattle.settlement.specs.Counting.{CountedPair}
use Rattle.settlement.proofs.Pairs.{Coming, coming_start, coming_more, coming_end, has_deal}
use Rattle.settlement.proofs.counting.count_new.Goals as goal

pub loop-k-init : goal.loop-k-init
loop-k-init c st day first dd j pairs row inside few counted = coming_start st day c.args.bytes.now c.args.n first dd j pairs c.args.seen.now c.args.before row counted

pub loop-k-preserved : goal.loop-k-preserved
loop-k-preserved c st day first dd j pairs row inside few counted =
    let at = c.in-Some.ensures.0 in
    let more = subst (λ d. CountedPair d.holder d.other c.loop-k.seen c.loop-k.count c.count_pair-count.new.seen c.count_pair-count.result) at c.count_pair-count.ensures in
    subst (λ d. Coming st day c.args.bytes.now c.args.n first dd j pairs (c.loop-k._k + 1) d.text_end c.count_pair-count.new.seen c.count_pair-count.result) (sym at)
    (coming_more st day c.args.bytes.now c.args.n first dd j pairs c.loop-k._k c.loop-k.at c.loop-k.seen c.count_pair-count.new.seen c.loop-k.count c.count_pair-count.result (omega arith) few inside more
    (c.loop-k.invariant st day first dd j pairs row inside few counted))

pub returns-in_default : goal.returns-in_default
returns-in_default c st day first dd j pairs row inside few counted =
    absurd
    (has_deal st day c.args.bytes.now c.args.n first dd j pairs c.loop-k._k c.loop-k.at c.loop-k.seen c.loop-k.count (omega arith) (c.loop-k.invariant st day first dd j pairs row inside few counted)
    (c.in_default.ensures))

pub returns : goal.returns
returns c st day first dd j pairs row inside few counted =
    coming_end st day c.args.bytes.now c.args.n first dd j pairs c.loop-k._k c.loop-k.at c.loop-k.seen c.loop-k.count (omega arith) (c.loop-k.invariant st day first dd j pairs row inside few counted)
