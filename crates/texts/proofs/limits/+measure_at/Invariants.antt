use Rattle.texts.proofs.limits.+measure_at.Given as goal

abbrev pub decreases-measure_at : goal.decreases-measure_at
decreases-measure_at l = l.falling
