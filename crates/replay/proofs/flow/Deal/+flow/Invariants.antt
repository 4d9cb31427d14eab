use Rattle.replay.proofs.flow.Deal.+flow.Given as goal

abbrev pub decreases-flow : goal.decreases-flow
decreases-flow l = l.n
