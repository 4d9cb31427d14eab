use Rattle.std.proofs.Common.{◌≡◌, ◌<◌, ◌++◌, map, length, get_or, pos, ◌-ℤ◌, ap, ◌∙◌, subst, ⊎_elim, arith, w64, rules}
use Rattle.std.specs.Int.{int_wrap}
use Rattle.std.proofs.lemmas.Bool.{cases_eq}
use Rattle.std.proofs.lemmas.Int.{wrapping_sub_is, int_wrap_fits, SFits-int_wrap}
use Rattle.std.proofs.lemmas.List.{get_or-set_same, get_or-set_other}
use Rattle.mornings.specs.Pairs.{as_bytes}
use Rattle.mornings.proofs.Writing.{zeros_more, behind_more}
use Rattle.settlement.specs.Paying.{Written, pair_payments}
use Rattle.settlement.proofs.Writing.{to_shared, from_shared, as_long}
use Rattle.settlement.proofs.payments.net_pair.Goals as goal

pub loop-k-preserved : goal.loop-k-preserved
loop-k-preserved c =
    let k = c.loop-k.k in
    let gets = get_or c.loop-k.gets k (pos 0) in
    let gives = get_or c.loop-k.gives k (pos 0) in
    let in-gets : k < length c.loop-k.gets = omega arith in
    let in-gives : k < length c.loop-k.gives = omega arith in
    let less = wrapping_sub_is w64 gets gives (search rules) (search rules)
    ∙ ap (λ z. int_wrap w64 (z -ℤ gives)) (c.loop-k.invariant.2 k (omega arith))
    ∙ ap (λ z. int_wrap w64 (get_or c.args.gets.now k (pos 0) -ℤ z)) (c.loop-k.invariant.3 k (omega arith)) in (
      zeros_more c.loop-k.gives k in-gives c.loop-k.invariant.0,
      λ j lt. ⊎_elim (λ e. rw e (get_or-set_same c.loop-k.gets k _ (pos 0) in-gets ∙ less)) (λ ne. get_or-set_other c.loop-k.gets k j _ (pos 0) ne ∙ c.loop-k.invariant.1 j (omega arith)) (cases_eq j k),
      λ j le. get_or-set_other c.loop-k.gets k j _ (pos 0) (omega arith) ∙ c.loop-k.invariant.2 j (omega arith),
      behind_more c.loop-k.gives c.args.gives.now k c.loop-k.invariant.3,
    )

pub returns : goal.returns
returns c was ps sums w amounts fits =
    let cs : length c.loop-k.gets ≡ length c.args.gets.now = omega arith in
    let long = as_long (length c.loop-k.gets) c.args.pair.low c.args.pair.high sums ∙ ap (λ n. length (pair_payments n c.args.pair.low c.args.pair.high sums)) cs in
    let paid = c.pay_pair.ensures was (map as_bytes ps) sums (to_shared was ps c.args.count c.args.payments.now w)
    (λ k lt. ap (int_wrap w64) (c.loop-k.invariant.1 k (omega arith)) ∙ int_wrap_fits w64 _ (SFits-int_wrap w64 _) ∙ amounts k (omega arith)) (omega (arith, long)) in
    record {
      written_all = subst (λ n. Written was (ps ++ pair_payments n c.args.pair.low c.args.pair.high sums) c.pay_pair.result c.pay_pair.new.payments) cs
          (from_shared was ps (length c.loop-k.gets) c.args.pair.low c.args.pair.high sums c.pay_pair.result c.pay_pair.new.payments paid.written);
      gets = paid.zeros;
      gives = λ k lt. c.loop-k.invariant.0 k (omega arith);
    }
