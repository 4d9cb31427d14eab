use Rattle.std.proofs.Common.{◌≡◌, get_or, ap, ◌∙◌, rules}
use Rattle.texts.specs.declared.nodes.Node.TheVariants.{Nothing}
use Rattle.texts.proofs.Rows.{holds_all}
use Rattle.texts.proofs.nodes.Tree.node.Goals as goal

pub returns : goal.returns
returns c ns h few near =
    let held : c.unwrap_or.result ≡ get_or c.deref.result.now c.args.i Nothing = search rules in
    held ∙ ap (λ l. get_or l c.args.i Nothing) (c.deref.ensures.0 ∙ holds_all h few)
