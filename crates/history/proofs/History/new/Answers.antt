use Rattle.std.proofs.Common.{refl, arith}
use Rattle.deals.specs.Contract.{all_deals}
use Rattle.replay.proofs.Anew.{stands_anew_lem}
use Rattle.history.proofs.History.new.Goals as goal

pub returns-clause-none : goal.returns-clause-none
unfolding all_deals
returns-clause-none c fits = record { mornings = rw (c.new.ensures.items, c.new-2.ensures.items) (stands_anew_lem.0 c.args.start fits); deals = refl; few = omega arith; in_time = omega arith }
