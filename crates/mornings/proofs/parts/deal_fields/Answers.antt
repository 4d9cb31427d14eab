use Rattle.std.proofs.Common.{refl}
use Rattle.std.proofs.lemmas.Result.{err_from_is_err_and}
use Rattle.mornings.specs.Verdict.{stops, goes}
use Rattle.mornings.specs.Judgement.{TextRead, DealFields}
use Rattle.mornings.proofs.Answered.{passes_as}
use Rattle.mornings.proofs.parts.deal_fields.Goals as goal

pub returns-in_err-holder : goal.returns-in_err-holder
returns-in_err-holder c =
    let p = err_from_is_err_and c.from_residual.result c.from_residual.ensures.1 in rw (p.1, p.2) (stops c.in_err-holder.ensures)

pub returns-in_err-_other : goal.returns-in_err-_other
returns-in_err-_other c =
    let p = err_from_is_err_and c.from_residual-in_err-_other.result c.from_residual-in_err-_other.ensures.1 in rw (p.1, p.2) (goes c.in_ok-holder.ensures (stops c.in_err-_other.ensures))

pub returns-in_err-_day : goal.returns-in_err-_day
returns-in_err-_day c =
    let p = err_from_is_err_and c.from_residual-in_err-_day.result c.from_residual-in_err-_day.ensures.1 in rw (p.1, p.2) (goes c.in_ok-holder.ensures (goes c.in_ok-_other.ensures (stops c.in_err-_day.ensures)))

pub returns-in_err-n : goal.returns-in_err-n
returns-in_err-n c =
    let p = err_from_is_err_and c.from_residual-in_err-n.result c.from_residual-in_err-n.ensures.1 in rw (p.1, p.2) (goes c.in_ok-holder.ensures (goes c.in_ok-_other.ensures (goes c.in_ok-_day.ensures (stops c.in_err-n.ensures))))

pub returns : goal.returns
returns c =
    let holder = c.in_ok-holder.ensures in
    let other = c.in_ok-_other.ensures in
    let from = c.in_ok-_day.ensures in
    let long = c.in_ok-n.ensures in
    passes_as (TextRead c.args.today.stage c.args.today.start c.in_ok-n.n) (DealFields c.args.today.stage c.args.today.start c.args.today.day) c.args.bytes.now c.in_ok-n.text_at c.args.at c.text.result
    (λ x to h. (record { holder = c.in_ok-holder.holder; other = c.in_ok-_other._other; contract = x; from = c.in_ok-_day._day }, goes holder (goes other (goes from (goes long (goes h refl))))))
    (λ e h. goes holder (goes other (goes from (goes long (stops h))))) c.text.ensures
