use Rattle.std.proofs.Common.{◌+◌, ◌-◌, ◌*◌, length}
use Rattle.texts.proofs.contracts.+by_day_contract_if_else_on_day_pair_scaled_turned_when.Given as goal

abbrev pub decreases-contract : goal.decreases-contract
decreases-contract l = 2 * (length l.text.now - l.at) + 1

abbrev pub decreases-pair : goal.decreases-pair
decreases-pair l = 2 * (length l.text.now - l.at)

abbrev pub decreases-by_day : goal.decreases-by_day
decreases-by_day l = 2 * (length l.text.now - l.at)

abbrev pub decreases-if_else : goal.decreases-if_else
decreases-if_else l = 2 * (length l.text.now - l.at)

abbrev pub decreases-on_day : goal.decreases-on_day
decreases-on_day l = 2 * (length l.text.now - l.at)

abbrev pub decreases-scaled : goal.decreases-scaled
decreases-scaled l = 2 * (length l.text.now - l.at)

abbrev pub decreases-turned : goal.decreases-turned
decreases-turned l = 2 * (length l.text.now - l.at)

abbrev pub decreases-when : goal.decreases-when
decreases-when l = 2 * (length l.text.now - l.at)
