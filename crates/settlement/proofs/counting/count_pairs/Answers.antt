use Rattle.settlement.proofs.Pairs.{all_counted}
use Rattle.settlement.proofs.counting.count_pairs.Goals as goal

pub returns : goal.returns
returns g c dd few stand =
    all_counted c.args.deals.now c.args.first c.args.bytes.now c.args.n g.row.N c.count_kept-count.result c.count_new.result c.count_kept-count.new.seen c.count_new.new.seen dd c.requires.table few
    c.count_kept-count.ensures c.count_new.ensures stand
