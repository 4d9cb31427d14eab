-- Numbers below 2^62 in size fit 64 bits, so wrapping leaves them.
use Rattle.std.proofs.Common.{◌≡◌, ℤ, pos, negsuc, ap, w64, SFits, rules}
use Rattle.std.specs.Int.{int_wrap}
use Rattle.std.proofs.lemmas.Int.{int_wrap_fits}
use Rattle.deals.specs.Contract.{down, million}
use Rattle.deals.specs.Promise.{size}
use Rattle.figures.specs.Exact.{Short, ExactWhenShort}

short_fits : (z : ℤ) → Short z → SFits w64 z
unfolding size
short_fits (pos n) h = search rules
short_fits (negsuc n) h = search rules

pub wrapped_short : (z : ℤ) → Short z → int_wrap w64 z ≡ z
wrapped_short z h = int_wrap_fits w64 z (short_fits z h)

pub exact_when_short_lem : ExactWhenShort
exact_when_short_lem a b =
    record {
      sums = λ h. wrapped_short _ h;
      differences = λ h. wrapped_short _ h;
      products = λ h. ap (λ z. down z million) (wrapped_short _ h);
    }
