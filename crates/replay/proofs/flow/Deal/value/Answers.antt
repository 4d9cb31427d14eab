use Rattle.std.proofs.Common.{◌∙◌, arith, rules, w64}
use Rattle.std.proofs.lemmas.Int.{to_z-of_z}
use Rattle.replay.specs.Days.{rates_of}
use Rattle.replay.specs.Parts.{node_in}
use Rattle.replay.proofs.Figures.{figure_means}
use Rattle.replay.proofs.flow.Deal.value.Goals as goal

pub returns-clause-meant : goal.returns-clause-meant
returns-clause-meant c rs ds e are lt fits stands room =
    to_z-of_z w64 c.figure.result (search rules) ∙ c.figure.ensures
    ∙ figure_means ds rs c.args.t (rates_of c.args.self.days) are.rates are.few are.small lt are.early (node_in c.args.self.nodes.now) e fits c.args.i 256 stands (omega arith) room
