use Rattle.residual.proofs.begin.+see_through.Given as goal

abbrev pub decreases-see_through : goal.decreases-see_through
decreases-see_through l = l.n
