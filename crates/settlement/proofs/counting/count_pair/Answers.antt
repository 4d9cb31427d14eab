use Rattle.settlement.proofs.Pairs.{has_place, pair_again, pair_new}
use Rattle.settlement.proofs.counting.count_pair.Goals as goal
use Rattle.settlement.proofs.counting.count_pair.Goals.{then-at-seen-via-then-at-seen, then-at-seen-via-else-at-seen+then-seen-at}

pub returns-then-at-seen : goal.returns-then-at-seen
returns-then-at-seen c pairs counted h o few =
    elim c.then-at-seen.branch [
      | then-at-seen-via-then-at-seen w ↦
          absurd (has_place c.args.seen.now pairs c.args.count c.args.holder c.args.other c.min.result c.max.result c.min.ensures c.max.ensures counted h o few w.if-at-seen.true)
      | then-at-seen-via-else-at-seen+then-seen-at w ↦
          pair_again c.args.seen.now pairs c.args.count c.args.holder c.args.other c.min.result c.max.result c.min.ensures c.max.ensures counted h o few w.if-seen-at.true
    ]

pub returns : goal.returns
returns c pairs counted h o few =
    pair_new c.args.seen.now pairs c.args.count c.args.holder c.args.other c.min.result c.max.result c.min.ensures c.max.ensures counted h o few c.if-seen-at.false
