use Rattle.std.proofs.Common.{rules}
use Rattle.texts.specs.Figures.{add, subtract, multiply, compare}
use Rattle.texts.proofs.FigureParts.{operator_stops}
use Rattle.texts.proofs.figures.operator.Goals as goal

pub returns-in_default : goal.returns-in_default
returns-in_default c = operator_stops c.args.text.now c.args.at c.requires (elim [ add ↦ search rules | subtract ↦ search rules | multiply ↦ search rules | compare ↦ search rules ])

pub returns-in_default-2 : goal.returns-in_default-2
returns-in_default-2 c = operator_stops c.args.text.now c.args.at c.requires (elim [ add ↦ search rules | subtract ↦ search rules | multiply ↦ search rules | compare ↦ search rules ])
