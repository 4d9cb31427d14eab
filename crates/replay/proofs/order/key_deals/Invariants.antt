use Rattle.std.proofs.Common.{◌≡◌, take}
use Rattle.replay.specs.Order.{keys_from}
use Rattle.replay.proofs.order.key_deals.Given as goal

abbrev pub invariant-loop-c : goal.invariant-loop-c
invariant-loop-c l = take l.c l.keys ≡ keys_from 0 (take l.c l.deals)
