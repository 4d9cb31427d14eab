use Rattle.std.proofs.Common.{pos, ◌*ℤ◌, ap, ◌∙◌, w64, SFits, rules}
use Rattle.std.specs.Int.{int_div_euclid, int_wrap}
use Rattle.deals.specs.Contract.{million}
use Rattle.std.proofs.lemmas.Int.{to_z-of_z, wrapping_mul_is}
use Rattle.figures.proofs.Rounding.{down_is_quotient}
use Rattle.figures.proofs.product.Goals as goal

pub returns : goal.returns
returns c =
    let quotient : SFits w64 c.div_euclid.result = search rules in
    to_z-of_z w64 c.div_euclid.result quotient
    ∙ c.div_euclid.ensures
    ∙ ap (λ z. int_div_euclid z (pos million)) (wrapping_mul_is w64 c.args.a c.args.v c.ranges.a c.ranges.v)
    ∙ down_is_quotient (int_wrap w64 (c.args.a *ℤ c.args.v))
