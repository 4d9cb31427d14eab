use Rattle.std.proofs.Common.{get_or, sym, ap, ◌∙◌, arith}
use Rattle.std.proofs.lemmas.Bool.Decides.{nat_tests}
use Rattle.texts.specs.Limits.{bounded}
use Rattle.texts.specs.declared.nodes.Node.TheVariants.{Nothing}
use Rattle.texts.proofs.Weights.{measured_none, measured_step, together_low, alone_low}
use Rattle.texts.proofs.limits.+measure_at.Goals as goal

pub returns-then-falling-eq0-clause-is : goal.returns-then-falling-eq0-clause-is
returns-then-falling-eq0-clause-is t c = grind (arith, nat_tests, measured_none)

pub returns-in-Some-clause-is : goal.returns-in-Some-clause-is
returns-in-Some-clause-is t c = grind (arith, nat_tests, measured_step)

pub returns-in_err-size-clause-is : goal.returns-in_err-size-clause-is
returns-in_err-size-clause-is t c = grind (arith, nat_tests, measured_step)

pub returns-in_err-x-clause-is : goal.returns-in_err-x-clause-is
returns-in_err-x-clause-is t c = grind (arith, nat_tests, measured_step)

pub returns-in_err-y-clause-is : goal.returns-in_err-y-clause-is
returns-in_err-y-clause-is t c = grind (arith, nat_tests, measured_step)

pub returns-then-pair : goal.returns-then-pair
returns-then-pair t c =
    let scale = c.in_ok-size.ensures.low in
    record {
      is = grind (arith, nat_tests, measured_step);
      low = together_low c.args.nodes.now c.args.at c.in_ok-size.next c.moderate-then-pair.result (get_or c.args.nodes.now c.args.at Nothing) c.in_ok-x.x c.in_ok-y.y
          c.in_ok-x.ensures.low c.in_ok-y.ensures.low (omega arith) (c.moderate-then-pair.ensures ∙ ap bounded c.both.ensures);
    }

pub returns-in_err-under-clause-is : goal.returns-in_err-under-clause-is
returns-in_err-under-clause-is t c = grind (arith, nat_tests, measured_step)

pub returns : goal.returns
returns t c =
    let scale = c.in_ok-size.ensures.low in
    record {
      is = grind (arith, nat_tests, measured_step);
      low = alone_low c.args.nodes.now c.args.at c.in_ok-size.next c.in_ok-size.size c.moderate-2.result (get_or c.args.nodes.now c.args.at Nothing) c.in_ok-x.x c.in_ok-under.field-0
          c.in_ok-x.ensures.low (omega arith) (sym c.under.ensures ∙ c.in_ok-under.was) c.moderate-2.ensures;
    }
