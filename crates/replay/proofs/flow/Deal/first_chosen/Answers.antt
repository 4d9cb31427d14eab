use Rattle.std.proofs.Common.{◌≡◌, true, false, length, arith, rules, tests}
use Rattle.std.proofs.lemmas.Iterator.{first_from_Range}
use Rattle.std.proofs.lemmas.Bool.Decides.{nat_tests}
use Rattle.replay.specs.Choices.{chosen_on}
use Rattle.replay.specs.First.{taken_on}
use Rattle.replay.proofs.Firsts.{first_found}
use Rattle.replay.proofs.flow.Deal.first_chosen.Goals as goal

pub returns : goal.returns
unfolding taken_on
returns c =
    let f = taken_on (chosen_on c.args.self.days.kept.now c.args.self.days.days.now c.args.self.number) c.args.d c.args.way in
    let t = c.args.t in
    let n = length c.args.self.days.days.now in
    first_found f t n c.find.result
    (first_from_Range _ _ _ _ (λ u. f u ≡ true) (λ u. f u ≡ false) c.find.ensures.ran (λ x q k. grind (arith, tests, nat_tests)) (λ x q k. (search rules, grind (arith, tests, nat_tests))))
