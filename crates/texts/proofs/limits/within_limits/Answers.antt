use Rattle.std.proofs.Common.{rules, tests}
use Rattle.texts.proofs.WithinLimits.{within_limits_lem}
use Rattle.texts.proofs.limits.within_limits.Goals as goal

pub returns : goal.returns
returns c x h =
    within_limits_lem x c.row.result.now c.measure_at.result c.is_some_and.result _ (λ few. c.row.ensures.all _ h few) (λ many. c.row.ensures.none _ h many) c.measure_at.ensures.is (λ m q. search (rules, tests)) c.is_some_and.ensures
