use Rattle.std.proofs.Common.{◌≡◌, true, false, length, arith, rules, tests}
use Rattle.std.proofs.lemmas.Iterator.{first_from_Range}
use Rattle.std.proofs.lemmas.Bool.Decides.{nat_tests}
use Rattle.std.proofs.lemmas.Int.{to_z-of_z}
use Rattle.replay.specs.Parts.{node_in}
use Rattle.replay.specs.Days.{rate_on}
use Rattle.replay.specs.First.{true_on}
use Rattle.replay.proofs.Arms.{zero_yes, zero_no}
use Rattle.replay.proofs.Firsts.{first_found}
use Rattle.replay.proofs.flow.Deal.first_true.Goals as goal

pub returns : goal.returns
unfolding true_on
returns c =
    let f = true_on (rate_on c.args.self.days.kept.now c.args.self.days.days.now) (node_in c.args.self.nodes.now) c.args.i in
    let t = c.args.t in
    let n = length c.args.self.days.days.now in
    first_found f t n c.find.result
    (first_from_Range _ _ _ _ (λ u. f u ≡ true) (λ u. f u ≡ false) c.find.ensures.ran (λ x q k. grind (arith, tests, nat_tests, to_z-of_z, zero_yes, zero_no)) (λ x q k. (search rules, grind (arith, tests, nat_tests, to_z-of_z, zero_yes, zero_no))))
