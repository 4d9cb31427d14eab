use Rattle.settlement.proofs.Opened.{opened_lent}
use Rattle.settlement.proofs.opening.open_deal.Goals as goal

pub returns : goal.returns
returns c =
    opened_lent c.args.c c.args.d.holder c.args.d.other c.args.d.day c.args.deals.now c.write_entry.new.deals c.open-kept.new.part c.args.marks.now c.open-kept.result c.requires
    c.open-kept.auto.part c.open-kept.ensures.opens c.write_entry.ensures
