use Rattle.std.proofs.Common.{◌≡◌, ◌-◌}
use Rattle.replay.specs.Choices.{chosen_from}
use Rattle.replay.proofs.choices.chosen_in.Given as goal

abbrev pub invariant-loop : goal.invariant-loop
invariant-loop l = chosen_from l.bytes (l.count - l.counter) l.at l.c l.way ≡ chosen_from l.bytes l.count l.from l.c l.way
