use Rattle.std.proofs.Common.{get_or, map, pos, ◌+ℤ◌, ap, ◌∙◌, subst, refl, w64, arith, sym, []}
use lib.ListN.{length-map}
use Rattle.std.specs.Int.{int_wrap}
use Rattle.deals.specs.Payments.{adds}
use Rattle.replay.specs.declared.dues.Above.TheVariants.{Turn}
use Rattle.replay.specs.Adding.{today_flows}
use Rattle.replay.specs.Dues.{Held, lift_due}
use Rattle.replay.proofs.Adds.{turned_grown}
use Rattle.replay.proofs.InTurn.{same_some}
use Rattle.replay.proofs.Whole.{today_few, adds_up, adds_down}
use Rattle.replay.proofs.adding.Book.add_deal.Goals as goal
use Rattle.replay.proofs.adding.Book.add_deal.Goals.{then-deal, else-deal}

pub returns : goal.returns
returns c o w k lt =
    let st = c.args.self.start in
    let kept = c.args.self.days.kept.now in
    let days = c.args.self.days.days.now in
    let xs = today_flows w.ds c.args.c c.args.deal w.contract in
    let flow = c.flow_deal.ensures w.ds w.contract w.coins w.are w.stands in
    let held = subst (λ d. Held d xs) (same_some c.flow_deal.result flow.0 c.in-Some.dues flow.1 c.in-Some.is) flow.2 in
    let few = today_few st.rates st.currencies c.args.c w.ds c.args.deal w.contract w.stands.text.fits in
    elim c.if-deal.branch [
      | then-deal v ↦ turned_grown xs (adds o) c.args.sums.now c.add_dues.new.sums (λ j. adds_down st kept days c.args.deal c.args.c o w j v.if-deal.true)
          (c.add_dues.ensures (map (lift_due Turn) xs) (subst (λ d. Held d (map (lift_due Turn) xs)) (sym v.dues-is) (v.lift_from.ensures [] xs held refl)) (omega (arith, few, length-map xs (lift_due Turn)))) k lt
      | else-deal v ↦ c.add_dues.ensures xs (subst (λ d. Held d xs) (sym v.dues-is) held) few k lt
          ∙ ap (λ z. int_wrap w64 (get_or c.args.sums.now k (pos 0) +ℤ z)) (adds_up st kept days c.args.deal c.args.c o w k v.if-deal.false)
    ]
