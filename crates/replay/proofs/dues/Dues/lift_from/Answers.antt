use Rattle.std.proofs.Common.{◌+◌, ◌-◌, get_or, set, sym, ap, ◌∙◌, w64, SFits, rules, ◌≡◌, length, to_z, of_z, length-set}
use Rattle.std.specs.List.{refill}
use Rattle.std.proofs.lemmas.Int.{to_z-of_z}
use Rattle.replay.specs.Dues.{lift_due, lifted, no_due}
use Rattle.replay.proofs.Holding.{refill_all, changed, changed_step, changed_none, lifted_from}
use Rattle.replay.proofs.dues.Dues.lift_from.Goals as goal

pub loop-i-preserved : goal.loop-i-preserved
loop-i-preserved c =
    let i = c.loop-i.i in
    let n = c.len-i-end.result in
    let row = c.loop-i.self.items.items in
    let f = lift_due c.args.above in
    let fits : SFits w64 (get_or c.deref.result.now i no_due).amount = search rules in
    let was = to_z-of_z w64 (get_or c.deref.result.now i no_due).amount fits ∙ ap (λ z. (get_or z i no_due).amount) c.deref.ensures.0 in
    let out = to_z-of_z w64 c.lift.result (search rules) ∙ c.lift.ensures ∙ ap (lifted c.args.above) was in
    let new : set c.deref_mut.result.now i (record { currency = (get_or c.deref_mut.result.now i no_due).currency; amount = to_z w64 (of_z w64 c.lift.result) }) ≡ set row i (f (get_or row i no_due)) =
    (λ j. let z = c.deref_mut.ensures.value j in set z i (record { currency = (get_or z i no_due).currency; amount = out j })) in
    let long : length (set row i (f (get_or row i no_due))) ≡ length row = length-set row i (f (get_or row i no_due)) in
    let kept = ap (refill (length row) row) new ∙ refill_all row (set row i (f (get_or row i no_due))) long in
    let step = changed_step f row i n c.loop-i-test.true in
    (ap (λ z. changed f z (i + 1) (n - (i + 1))) kept ∙ sym step ∙ c.loop-i.invariant.0, ap length kept ∙ long ∙ c.loop-i.invariant.1)

pub returns : goal.returns
returns c =
    let n = c.len-i-end.ensures.value in
    lifted_from c.args.self.now c.loop-i.self c.args.from c.args.above
    (sym (changed_none (lift_due c.args.above) c.loop-i.self.items.items c.loop-i.i c.len-i-end.result c.loop-i-test.false) ∙ c.loop-i.invariant.0
    ∙ ap (λ m. changed (lift_due c.args.above) c.args.self.now.items.items c.args.from (m - c.args.from)) n)
