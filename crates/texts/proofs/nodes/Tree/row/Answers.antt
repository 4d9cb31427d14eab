use Rattle.std.proofs.Common.{length, sym, ap, ◌∙◌, arith}
use Rattle.std.proofs.lemmas.List.{take_all}
use Rattle.texts.proofs.Rows.{holds_all, holds_long}
use Rattle.texts.proofs.nodes.Tree.row.Goals as goal

pub returns-then-len-le256-clause-all : goal.returns-then-len-le256-clause-all
returns-then-len-le256-clause-all c ns h few = c.deref.ensures.0 ∙ holds_all h few

pub returns-then-len-le256-clause-held : goal.returns-then-len-le256-clause-held
returns-then-len-le256-clause-held c some =
    let long = ap length c.deref.ensures.0 in
    record { first = sym c.deref.ensures.0 ∙ sym (take_all 257 c.deref.result.now (omega arith)) }

pub returns-then-len-le256-clause-none : goal.returns-then-len-le256-clause-none
returns-then-len-le256-clause-none c ns h many = absurd (omega (arith, c.len.ensures.value, holds_long h))

pub returns-else-len-le256-clause-all : goal.returns-else-len-le256-clause-all
returns-else-len-le256-clause-all c ns h few = absurd (omega (arith, c.len.ensures.value, holds_long h))
