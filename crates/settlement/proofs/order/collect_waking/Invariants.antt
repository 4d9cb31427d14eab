use Rattle.std.proofs.Common.{◌≡◌, ◌≤◌, take}
use Rattle.settlement.specs.Order.{words_waking}
use Rattle.settlement.proofs.order.collect_waking.Given as goal

abbrev pub invariant-waking : goal.invariant-waking
invariant-waking l = (l.count ≤ l.c) × (take l.count l.work ≡ words_waking l.t l.deals l.c)
