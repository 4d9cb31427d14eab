use Rattle.std.proofs.Common.{sym, arith}
use Rattle.std.proofs.lemmas.Bool.Decides.{nat_tests}
use Rattle.std.proofs.lemmas.Int.{to_z-of_z}
use Rattle.replay.specs.Flow.{seen_by, next_of}
use Rattle.replay.proofs.Arms.{zero_yes, zero_no}
use Rattle.replay.proofs.Steps.{next_none}
use Rattle.replay.proofs.flow.Deal.next.Goals as goal

pub returns-in_err-get-in-Choice : goal.returns-in_err-get-in-Choice
unfolding next_of
returns-in_err-get-in-Choice c = grind (arith, nat_tests, c.in_err-get-in-Choice.ensures.lookup)

pub returns-in_err-get-in-If : goal.returns-in_err-get-in-If
unfolding next_of
returns-in_err-get-in-If c = grind (arith, nat_tests, c.in_err-get-in-If.ensures.lookup)

pub returns-in_err-v-in-When : goal.returns-in_err-v-in-When
unfolding next_of
returns-in_err-v-in-When c = grind (arith, nat_tests)

pub returns-in_err-v-in-By : goal.returns-in_err-v-in-By
unfolding next_of
returns-in_err-v-in-By c = grind (arith, nat_tests)

pub returns-then-chosen_on : goal.returns-then-chosen_on
unfolding next_of
returns-then-chosen_on c = grind (arith, nat_tests, c.in_ok-get-in-Choice.ensures.lookup)

pub returns-else-chosen_on : goal.returns-else-chosen_on
unfolding next_of
returns-else-chosen_on c = grind (arith, nat_tests, c.in_ok-get-in-Choice.ensures.lookup)

pub returns-then-value-eq0 : goal.returns-then-value-eq0
unfolding next_of
returns-then-value-eq0 c = grind (arith, nat_tests, c.in_ok-get-in-If.ensures.lookup, to_z-of_z, zero_yes, zero_no)

pub returns-else-value-eq0 : goal.returns-else-value-eq0
unfolding next_of
returns-else-value-eq0 c = grind (arith, nat_tests, c.in_ok-get-in-If.ensures.lookup, to_z-of_z, zero_yes, zero_no)

pub returns-in_ok-v-in-When : goal.returns-in_ok-v-in-When
unfolding next_of
returns-in_ok-v-in-When c = grind (arith, nat_tests)

pub returns-in_ok-v-in-By : goal.returns-in_ok-v-in-By
unfolding next_of
returns-in_ok-v-in-By c = grind (arith, nat_tests)

pub returns-in_default : goal.returns-in_default
returns-in_default c =
    let s = seen_by c.args.self.now in
    let r = c.in_default in
    sym (next_none s 0 c.args.part c.args.node r.not-Choice r.not-If r.not-On r.not-When r.not-By)

pub returns-in-On : goal.returns-in-On
unfolding next_of
returns-in-On c = grind (arith, nat_tests)
