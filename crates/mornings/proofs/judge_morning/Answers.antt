use Rattle.std.proofs.Common.{refl}
use Rattle.std.proofs.lemmas.Result.{err_from_is_err_and}
use Rattle.mornings.specs.Verdict.{stops, goes, Row}
use Rattle.mornings.specs.Judgement.{few, many, DealRead}
use Rattle.mornings.proofs.Fields.{end_at, number_end}
use Rattle.mornings.proofs.Limits.{by_first}
use Rattle.mornings.proofs.judge_morning.Goals as goal

pub returns-then-day-ge65536 : goal.returns-then-day-ge65536
returns-then-day-ge65536 c = many c.if-day-ge65536.true (by_first 2 _ c.args.bytes.now 0 c.short.result c.too_many.result c.short.ensures c.too_many.ensures)

pub returns-in_err-n : goal.returns-in_err-n
returns-in_err-n c =
    let p = err_from_is_err_and c.from_residual.result c.from_residual.ensures.1 in rw (p.1, p.2) (few c.if-day-ge65536.false (stops c.in_err-n.ensures))

pub returns-in_err-rates_at : goal.returns-in_err-rates_at
returns-in_err-rates_at c =
    let p = err_from_is_err_and c.from_residual-in_err-rates_at.result c.from_residual-in_err-rates_at.ensures.1 in rw (p.1, p.2) (few c.if-day-ge65536.false (goes c.in_ok-n.ensures (stops c.in_err-rates_at.ensures)))

pub returns-in_err-rates_end : goal.returns-in_err-rates_end
returns-in_err-rates_end c =
    let p = err_from_is_err_and c.from_residual-in_err-rates_end.result c.from_residual-in_err-rates_end.ensures.1 in rw (p.1, p.2) (few c.if-day-ge65536.false (goes c.in_ok-n.ensures (goes c.in_ok-rates_at.ensures.1 (stops c.in_err-rates_end.ensures))))

pub returns-in_err-m : goal.returns-in_err-m
returns-in_err-m c =
    let p = err_from_is_err_and c.from_residual-in_err-m.result c.from_residual-in_err-m.ensures.1 in rw (p.1, p.2) (few c.if-day-ge65536.false (goes c.in_ok-n.ensures (goes c.in_ok-rates_at.ensures.1 (goes c.in_ok-rates_end.ensures.1 (stops c.in_err-m.ensures)))))

pub returns-in_err-to : goal.returns-in_err-to
returns-in_err-to c =
    let p = err_from_is_err_and c.from_residual-in_err-to.result c.from_residual-in_err-to.ensures.1 in rw (p.1, p.2) (few c.if-day-ge65536.false (goes c.in_ok-n.ensures (goes c.in_ok-rates_at.ensures.1 (goes c.in_ok-rates_end.ensures.1 (goes c.in_ok-m.ensures (stops c.in_err-to.ensures))))))

pub returns-in_err-_end : goal.returns-in_err-_end
returns-in_err-_end c =
    let p = err_from_is_err_and c.from_residual-in_err-_end.result c.from_residual-in_err-_end.ensures.1 in rw (p.1, p.2) (few c.if-day-ge65536.false (goes c.in_ok-n.ensures (goes c.in_ok-rates_at.ensures.1 (goes c.in_ok-rates_end.ensures.1 (goes c.in_ok-m.ensures (goes c.in_ok-to.ensures.1 (stops c.in_err-_end.ensures)))))))

pub returns : goal.returns
returns c =
    let deals = c.in_ok-rates_at.ensures in
    let rates = c.in_ok-rates_end.ensures in
    let choices = c.in_ok-to.ensures in (
      record { deals = deals.0; day = record { rates = rates.0; choices = choices.0 } },
      record {
        whole = few c.if-day-ge65536.false (goes c.in_ok-n.ensures (goes deals.1 (goes rates.1 (goes c.in_ok-m.ensures (goes choices.1 (goes (end_at c.in_ok-_end.ensures.1) refl))))));
        deals = number_end (Row c.in_ok-n.n (DealRead c.args.stage c.args.start c.args.day) c.args.so_far) c.in_ok-n.ensures deals.1;
        rates = (c.in_ok-rates_end.rates_end, rates.1);
        choices = (c.in_ok-to.to, choices.1);
      },
    )
