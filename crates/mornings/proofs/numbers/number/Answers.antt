use Rattle.std.proofs.Common.{◌≡◌, true, false, sym, ◌∙◌, rules}
use Rattle.mornings.specs.Verdict.{cut}
use Rattle.mornings.proofs.Fields.{is_right, is_wrong}
use Rattle.mornings.proofs.numbers.number.Goals as goal

pub returns-then-bytes-width : goal.returns-then-bytes-width
returns-then-bytes-width g c test tests = cut (search rules)

pub returns-then-right : goal.returns-then-right
returns-then-right g c test tests =
    rw c.WIDTH-width.ensures (is_right _ _ _ _ _ c.read-v.result c.read-v.ensures (search rules) (sym (tests c.read-v.result true c.if-right.ensures)))

pub returns-else-right : goal.returns-else-right
returns-else-right g c test tests =
    is_wrong _ _ _ _ _ c.read-v.result c.read-v.ensures (search rules) (λ is. let clash : false ≡ true = tests c.read-v.result false c.if-right.ensures ∙ is in search rules)
