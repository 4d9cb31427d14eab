use Rattle.texts.proofs.writing.+write_figure.Given as goal

abbrev pub decreases-write_figure : goal.decreases-write_figure
decreases-write_figure l = l.falling
