use Rattle.std.proofs.Common.{◌+◌, subst, w64, SFits, rules}
use Rattle.std.proofs.lemmas.Int.{to_z-of_z}
use Rattle.mornings.specs.Written.{rate_octets, Wrote}
use Rattle.mornings.proofs.Chains.{word_put}
use Rattle.mornings.proofs.writers.write_rate.Goals as goal

pub returns : goal.returns
returns c =
    let f : SFits w64 c.args.rate = search rules in
    subst (λ v. Wrote c.args.out.now c.args.at (rate_octets v) c.write.new.s (c.args.at + 8)) (to_z-of_z w64 c.args.rate f)
    (word_put 8 c.args.out.now _ c.args.at _ c.write.ensures)
