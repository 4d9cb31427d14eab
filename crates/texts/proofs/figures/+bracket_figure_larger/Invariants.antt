use Rattle.std.proofs.Common.{◌+◌, ◌-◌, ◌*◌, length}
use Rattle.texts.proofs.figures.+bracket_figure_larger.Given as goal

abbrev pub decreases-figure : goal.decreases-figure
decreases-figure l = 2 * (length l.text.now - l.at) + 1

abbrev pub decreases-bracket : goal.decreases-bracket
decreases-bracket l = 2 * (length l.text.now - l.at)

abbrev pub decreases-larger : goal.decreases-larger
decreases-larger l = 2 * (length l.text.now - l.at)
