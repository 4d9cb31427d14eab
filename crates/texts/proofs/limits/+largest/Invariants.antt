use Rattle.texts.proofs.limits.+largest.Given as goal

abbrev pub decreases-largest : goal.decreases-largest
decreases-largest l = l.falling
