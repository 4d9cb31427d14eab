use Rattle.std.proofs.Common.{◌-◌, [], ◌∷◌, map, sym, ap, ◌∙◌, ⊎_elim, arith, w64, to_z, of_z, rules}
use Rattle.std.proofs.lemmas.Int.{to_z-of_z}
use Rattle.replay.specs.declared.dues.Above.TheVariants.{Turn, Scale}
use Rattle.replay.specs.Dues.{lift_due}
use Rattle.replay.specs.Flow.{seen_by, goes_on, flow_at}
use Rattle.replay.proofs.Steps.{flow_zero, flow_past}
use Rattle.replay.proofs.Holding.{adds_as, adds_none, adds_both, adds_lifted}
use Rattle.replay.proofs.Arms.{arm_pays, arm_pays_other, arm_pays_late, arm_turned, arm_both, arm_of_late, arm_of, arm_next, none_goes}
use Rattle.replay.proofs.flow.Deal.+flow.Goals as goal
use Rattle.replay.proofs.flow.Deal.+flow.Goals.{else-t-u-via-then-t-u+else-t-self, else-t-u-via-else-t-u}

pub returns-then-n-eq0 : goal.returns-then-n-eq0
returns-then-n-eq0 t c =
    let s = seen_by c.args.self.now in
    adds_as _ [] (⊎_elim (λ e. flow_zero s c.args.u c.args.n c.args.part e) (λ h. flow_past s c.args.u c.args.n c.args.part h.1) c.then-n-eq0.either) (adds_none c.args.out.now)

pub returns-then-t-self : goal.returns-then-t-self
returns-then-t-self t c = adds_as _ _ (arm_pays (seen_by c.args.self.now) c.args.u c.args.n c.args.part c.node-node.result (omega arith) (omega arith) c.node-node.ensures c.in-Pays.currency c.in-Pays.amount c.in-Pays.is c.if-t-u.true c.if-t-self.true ∙ ap (λ z. record { currency = c.in-Pays.currency; amount = z } ∷ []) (sym (to_z-of_z w64 c.in-Pays.amount (search rules)))) c.push.ensures

pub returns-else-t-u : goal.returns-else-t-u
returns-else-t-u t c =
    adds_as _ []
    (elim c.else-t-u.branch [
      | else-t-u-via-then-t-u+else-t-self w ↦ arm_pays_late (seen_by c.args.self.now) c.args.u c.args.n c.args.part c.node-node.result (omega arith) (omega arith) c.node-node.ensures c.in-Pays.currency c.in-Pays.amount c.in-Pays.is w.if-t-u.true w.if-t-self.false
      | else-t-u-via-else-t-u w ↦ arm_pays_other (seen_by c.args.self.now) c.args.u c.args.n c.args.part c.node-node.result (omega arith) (omega arith) c.node-node.ensures c.in-Pays.currency c.in-Pays.amount c.in-Pays.is w.if-t-u.false
    ]) (adds_none c.args.out.now)

pub returns-in-Turned : goal.returns-in-Turned
returns-in-Turned t c = adds_as _ _ (arm_turned (seen_by c.args.self.now) c.args.u c.args.n c.args.part c.node-node.result (omega arith) (omega arith) c.node-node.ensures c.inside.result c.in-Turned.is c.inside.ensures) (adds_lifted _ c.count-from.result Turn c.flow.ensures c.count-from.ensures c.lift_from.ensures)

pub returns-in-Both : goal.returns-in-Both
returns-in-Both t c = adds_as _ _ (arm_both (seen_by c.args.self.now) c.args.u c.args.n c.args.part c.node-node.result (omega arith) (omega arith) c.node-node.ensures c.inside-in-Both.result c.inside-in-Both-2.result c.behind.result c.in-Both.is c.behind.ensures c.inside-in-Both.ensures c.inside-in-Both-2.ensures) (adds_both _ _ c.flow-in-Both.ensures c.flow-in-Both-2.ensures)

pub returns-then-t-self-2 : goal.returns-then-t-self-2
returns-then-t-self-2 t c = adds_as _ _ (arm_of (seen_by c.args.self.now) c.args.u c.args.n c.args.part c.node-node.result (omega arith) (omega arith) c.node-node.ensures c.inside-then-t-self-2.result c.behind-x.result c.value-v.result c.in-Of.is (omega arith) c.value-v.ensures.is c.behind-x.ensures c.inside-then-t-self-2.ensures ∙ ap (λ z. map (lift_due (Scale z)) (flow_at (seen_by c.args.self.now) c.args.u (c.args.n - 1) c.inside-then-t-self-2.result)) (sym (to_z-of_z w64 c.value-v.result (search rules)))) (adds_lifted _ c.count-from-then-t-self-2.result (Scale (to_z w64 (of_z w64 c.value-v.result))) c.flow-then-t-self-2.ensures c.count-from-then-t-self-2.ensures c.lift_from-then-t-self-2.ensures)

pub returns-else-t-self-2 : goal.returns-else-t-self-2
returns-else-t-self-2 t c = adds_as _ [] (arm_of_late (seen_by c.args.self.now) c.args.u c.args.n c.args.part c.node-node.result (omega arith) (omega arith) c.node-node.ensures c.in-Of.is (omega arith)) (adds_none c.args.out.now)

pub returns-in-Some : goal.returns-in-Some
returns-in-Some t c =
    let r = c.in_default in
    adds_as _ _ (arm_next (seen_by c.args.self.now) c.args.u c.args.n c.args.part c.node-node.result (omega arith) (omega arith) c.node-node.ensures c.next.result r.not-Pays r.not-Turned r.not-Both r.not-Of c.next.ensures
    ∙ ap (λ o. goes_on o (flow_at (seen_by c.args.self.now) c.args.u (c.args.n - 1))) c.in-Some.is) c.flow-in-Some.ensures

pub returns-in_default-next : goal.returns-in_default-next
returns-in_default-next t c =
    let r = c.in_default in
    adds_as _ [] (arm_next (seen_by c.args.self.now) c.args.u c.args.n c.args.part c.node-node.result (omega arith) (omega arith) c.node-node.ensures c.next.result r.not-Pays r.not-Turned r.not-Both r.not-Of c.next.ensures ∙ none_goes c.next.result _ c.in_default-next.not-Some) (adds_none c.args.out.now)
