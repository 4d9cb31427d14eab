use Rattle.std.proofs.Common.{◌≡◌, ◌<◌, ◌++◌, length, get_or, pos, sym, refl, ap, ◌∙◌, subst, arith, w64, rules}
use Rattle.std.specs.Int.{int_wrap}
use Rattle.std.proofs.lemmas.Int.{to_z-of_z, int_wrap_fits}
use Rattle.mornings.specs.Pairs.{payment_of, pair_payments, Written}
use Rattle.mornings.proofs.Writing.{no_currency, pair_more, written_none, zeros_more, behind_more}
use Rattle.mornings.proofs.pairs.pay_pair.Goals as goal

pub loop-k-init : goal.loop-k-init
loop-k-init c = (
  λ j lt. absurd (omega arith),
  λ j le. refl,
  λ was ps f w amounts fits. subst (λ z. Written was (ps ++ z) c.args.count c.args.payments.now) (sym (no_currency c.args.pair.low c.args.pair.high f)) (written_none was ps c.args.count c.args.payments.now w),
)

pub loop-k-preserved : goal.loop-k-preserved
loop-k-preserved c =
    let k = c.loop-k.k in
    let within : k < length c.loop-k.sums = omega arith in (
      zeros_more c.loop-k.sums k within c.loop-k.invariant.0,
      behind_more c.loop-k.sums c.args.sums.now k c.loop-k.invariant.1,
      λ was ps f w amounts fits.
          let paid : c.payment_of.result ≡ payment_of c.args.pair.low c.args.pair.high k (f k) =
          c.payment_of.ensures ∙ ap (payment_of c.args.pair.low c.args.pair.high k)
          (to_z-of_z w64 (get_or c.loop-k.sums k (pos 0)) (search rules) ∙ sym (int_wrap_fits w64 (get_or c.loop-k.sums k (pos 0)) (search rules))
          ∙ ap (int_wrap w64) (c.loop-k.invariant.1 k (omega arith)) ∙ amounts k (omega arith)) in
          pair_more c.args.pair.low c.args.pair.high k (length c.args.sums.now) c.args.count f was ps c.loop-k.count c.append_payment-count.result c.loop-k.payments c.append_payment-count.new.payments
          (omega arith) w.count fits (simp paid at (c.append_payment-count.ensures was (ps ++ pair_payments k c.args.pair.low c.args.pair.high f))) (c.loop-k.invariant.2 was ps f w amounts fits),
    )

pub returns : goal.returns
returns c was ps f w amounts fits =
    let all : c.loop-k.k ≡ length c.args.sums.now = omega arith in
    record {
      written = subst (λ n. Written was (ps ++ pair_payments n c.args.pair.low c.args.pair.high f) c.loop-k.count c.loop-k.payments) all (c.loop-k.invariant.2 was ps f w amounts fits);
      zeros = λ k lt. c.loop-k.invariant.0 k (omega arith);
    }
