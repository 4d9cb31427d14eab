use Rattle.replay.proofs.days.Days.+figure.Given as goal

abbrev pub decreases-figure : goal.decreases-figure
decreases-figure l = l.n
