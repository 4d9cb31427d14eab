use Rattle.settlement.proofs.Waking.{woken_lent}
use Rattle.settlement.proofs.netting.wake_deal.Goals as goal

pub returns : goal.returns
returns c =
    woken_lent c.args.t c.args.c c.args.deals.now c.write_entry.new.deals c.wake-kept.new.part c.args.due.now c.wake-kept.new.due c.args.entry c.wake-kept.result c.requires.is c.requires.fits c.wake-kept.auto.part c.wake-kept.ensures.wakes c.write_entry.ensures
