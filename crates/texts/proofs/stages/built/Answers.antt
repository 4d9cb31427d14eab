use Rattle.std.proofs.Common.{sym, ap, ◌∙◌, arith}
use Rattle.texts.specs.Nodes.{nodes_of}
use Rattle.texts.specs.Stages.{all_thin, built_at}
use Rattle.texts.proofs.Standing.{nodes_length}
use Rattle.texts.proofs.ThinNodes.{thin_nodes}
use Rattle.texts.proofs.stages.built.Goals as goal

pub returns-in-Thin : goal.returns-in-Thin
returns-in-Thin c x h few =
    c.all_known.ensures ∙ ap all_thin (c.row.ensures.all (nodes_of x) h (omega (arith, nodes_length x))) ∙ thin_nodes x ∙ sym (ap (λ s. built_at s x) c.in-Thin.is)
