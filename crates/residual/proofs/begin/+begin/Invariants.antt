use Rattle.residual.proofs.begin.+begin.Given as goal

abbrev pub decreases-begin : goal.decreases-begin
decreases-begin l = l.n
