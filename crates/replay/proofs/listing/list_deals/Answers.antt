use Rattle.std.proofs.Common.{get_or, sym, subst, arith}
use Rattle.replay.specs.Days.{nowhere}
use Rattle.replay.specs.Listing.{DealsRun, Listed}
use Rattle.replay.proofs.InTurn.{none_listed, some_listed, morning_next, morning_runs, mornings_full, mornings_more, mornings_end}
use Rattle.replay.proofs.listing.list_deals.Goals as goal

pub returns-in_err-count : goal.returns-in_err-count
returns-in_err-count c xs h =
    let l = c.loop-t.invariant xs h in
    let ys = morning_next c.args.days.kept.now c.args.days.days.now c.loop-t.t xs c.loop-t.deals c.loop-t.count c.loop-t-test.true l in
    let runs = morning_runs c.args.days.kept.now c.args.days.days.now c.loop-t.t xs c.loop-t.deals c.loop-t.count c.loop-t-test.true l in
    let day = get_or c.args.days.days.now c.loop-t.t nowhere in
    let listed = c.list_morning.ensures ys (subst (λ s. DealsRun s day.parts.deals 2 c.loop-t.t ys) (sym c.bytes_of.ensures) runs) l.room in
    let few = none_listed c.loop-t.deals c.loop-t.count ys c.list_morning.result c.list_morning.new.deals listed c.in_err-count.was in
    let full = mornings_full c.args.days.kept.now c.args.days.days.now c.loop-t.t xs c.loop-t.deals c.loop-t.count c.loop-t-test.true l few in
    subst (λ r. Listed c.args.deals.now 0 xs r c.list_morning.new.deals) (sym c.from_residual.ensures) (omega arith)

pub loop-t-preserved : goal.loop-t-preserved
loop-t-preserved c xs h =
    let l = c.loop-t.invariant xs h in
    let ys = morning_next c.args.days.kept.now c.args.days.days.now c.loop-t.t xs c.loop-t.deals c.loop-t.count c.loop-t-test.true l in
    let runs = morning_runs c.args.days.kept.now c.args.days.days.now c.loop-t.t xs c.loop-t.deals c.loop-t.count c.loop-t-test.true l in
    let day = get_or c.args.days.days.now c.loop-t.t nowhere in
    let listed = c.list_morning.ensures ys (subst (λ s. DealsRun s day.parts.deals 2 c.loop-t.t ys) (sym c.bytes_of.ensures) runs) l.room in
    mornings_more c.args.days.kept.now c.args.days.days.now c.loop-t.t xs c.loop-t.deals c.loop-t.count c.loop-t-test.true l c.in_ok-count.count c.list_morning.new.deals (omega arith)
    (some_listed c.loop-t.deals c.loop-t.count ys c.list_morning.result c.list_morning.new.deals c.in_ok-count.count listed c.in_ok-count.was)

pub returns : goal.returns
returns c xs h =
    let e = mornings_end c.args.days.kept.now c.args.days.days.now c.loop-t.t xs c.loop-t.deals c.loop-t.count (omega arith) (c.loop-t.invariant xs h) in
    (e.0, omega (arith, e.1), e.2)
