use Rattle.std.proofs.Common.{◌≡◌, ◌+◌, ◌-◌, ◌||◌, sym, ap, ◌∙◌, arith}
use Rattle.replay.specs.Choices.{chosen_from}
use Rattle.replay.proofs.Chosen.{chosen_step, chosen_stop, chosen_zero}
use Rattle.replay.proofs.choices.chosen_in.Goals as goal

pub returns-in_default : goal.returns-in_default
returns-in_default c =
    sym (chosen_stop c.args.bytes.now c.args.c c.args.way (c.args.count - c.loop.counter) c.loop.at (omega arith) (λ x e. c.in_default.not-Some x (c.choice_in.ensures ∙ e))) ∙ c.loop.invariant

pub returns-then-is_for : goal.returns-then-is_for
returns-then-is_for c =
    let step = chosen_step c.args.bytes.now c.args.c c.args.way (c.args.count - c.loop.counter) c.loop.at c.in-Some.choice (omega arith) (sym c.choice_in.ensures ∙ c.in-Some.is) in
    let rest = chosen_from c.args.bytes.now ((c.args.count - c.loop.counter) - 1) c.in-Some.choice.next c.args.c c.args.way in
    sym (step ∙ ap (λ z. z || rest) (sym c.is_for.ensures ∙ c.if-is_for.true)) ∙ c.loop.invariant

pub loop-preserved : goal.loop-preserved
loop-preserved c =
    let s = c.args.bytes.now in
    let left = c.args.count - c.loop.counter in
    let next = c.in-Some.choice.next in
    let step = chosen_step s c.args.c c.args.way left c.loop.at c.in-Some.choice (omega arith) (sym c.choice_in.ensures ∙ c.in-Some.is) in
    let one_less : left - 1 ≡ c.args.count - (c.loop.counter + 1) = omega arith in
    ap (λ n. chosen_from s n next c.args.c c.args.way) (sym one_less)
    ∙ sym (step ∙ ap (λ z. z || chosen_from s (left - 1) next c.args.c c.args.way) (sym c.is_for.ensures ∙ c.if-is_for.false)) ∙ c.loop.invariant

pub returns : goal.returns
returns c = sym (chosen_zero c.args.bytes.now c.args.c c.args.way (c.args.count - c.loop.counter) c.loop.at (omega arith)) ∙ c.loop.invariant
