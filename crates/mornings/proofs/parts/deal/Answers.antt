use Rattle.mornings.specs.Judgement.{DealFields, DealRead, few, many}
use Rattle.mornings.proofs.Answered.{passes_as}
use Rattle.mornings.proofs.Limits.{by_first}
use Rattle.mornings.proofs.parts.deal.Goals as goal

pub returns-then-number-ge65536 : goal.returns-then-number-ge65536
returns-then-number-ge65536 c = many c.if-number-ge65536.true (by_first 2 _ c.args.bytes.now c.args.at c.house.result c.too_many.result c.house.ensures c.too_many.ensures)

pub returns : goal.returns
returns c =
    passes_as (DealFields c.args.today.stage c.args.today.start c.args.today.day) (DealRead c.args.today.stage c.args.today.start c.args.today.day c.args.number) c.args.bytes.now c.args.at c.args.at c.deal_fields.result
    (λ d to h. (d, few c.if-number-ge65536.false h)) (λ e h. few c.if-number-ge65536.false h) c.deal_fields.ensures
